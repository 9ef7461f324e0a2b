-- Wanted and ready blocks after a change.
use Rattle.std.proofs.Common.{◌≡◌, false, List}
use Rattle.std.specs.Prelude.{All, Contains}
use Rattle.std.proofs.lemmas.List.Elements.{All-contains}
use Rattle.gx_lineage.specs.declared.block_id.BlockId.{BlockId}
use Rattle.gx_cluster_state.specs.declared.event.Event.{Event}
use Rattle.gx_cluster_state.specs.Turns.{Turns, ended, taken}
use Rattle.gx_cluster_state.specs.Nets.{Net, Wanted, target, input}
use Rattle.gx_cluster_state.specs.Shapes.{Shape, is_held, is_running}

-- a wanted block is not held
pub wanted_missing : {n : Net} {ts : List BlockId} {s : Shape} {b : BlockId} → Wanted n ts s b
    → is_held s b ≡ false
wanted_missing (target h f) = f
wanted_missing (input c i h f) = f

-- what is wanted stays wanted, if what matters of it stays: `keeps` names the blocks for which it
-- does
pub wanted_moves : {n : Net} {ts : List BlockId} {s t : Shape} {b : BlockId} (keeps : BlockId
    → Type 0)
    → ((q : BlockId) → keeps q → is_held s q ≡ false → is_held t q ≡ false)
    → ((c d : BlockId) → is_held s c ≡ false → is_running s c ≡ false → Contains (n.inputs c) d
    → is_held s d ≡ false
    → keeps c × (is_running t c ≡ false))
    → keeps b → Wanted n ts s b → Wanted n ts t b
wanted_moves keeps held idle k (target h f) = target h (held _ k f)
wanted_moves keeps held idle k (input {c = c} w i h f) =
    let moved = idle c _ (wanted_missing w) i h f in
    input (wanted_moves keeps held idle moved.0 w) moved.1 h (held _ k f)

-- wanted blocks are in the net
pub wanted_in : {n : Net} {ts : List BlockId} {s : Shape} {b : BlockId} → All n.has ts
    → ((c d : BlockId) → n.has c → Contains (n.inputs c) d → n.has d)
    → Wanted n ts s b → n.has b
wanted_in {n = n} {ts = ts} a closed (target h f) = All-contains n.has ts _ a h
wanted_in {n = n} {ts = ts} a closed (input {b = b} {c = c} w i h f) =
    closed c b (wanted_in a closed w) h

-- turns, and then more turns
pub turns_then : {n : Net} {ts : List BlockId} {last : Shape} {left : List Event} {mid : Shape}
    {more : List Event} {s : Shape} {es : List Event}
    → Turns n ts mid more s es → Turns n ts last left mid more → Turns n ts last left s es
turns_then ended rest = rest
turns_then (taken h t first) rest = taken h t (turns_then first rest)
