mod BuiltLemmas
mod ScriptWalk
mod SoundScripts
mod TypedBodies
mod UseLemmas
mod MarkLemmas
mod NeedLemmas
mod BoundedScripts
