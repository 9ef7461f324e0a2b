-- How large the scripts are that texts spell.
use Rattle.std.specs.Prelude.{ℕ, List}
use Rattle.gx_syntax_tree.specs.Bounds.{AreBounded}
use Rattle.gx_syntax_tree.specs.declared.stmt.Stmt.{Stmt}
use Rattle.gx_syntax.specs.Texts.{SpellsText}

-- each script that some text spells is bounded
abbrev pub SpellsBoundedScripts : Type 0
SpellsBoundedScripts = (text : List ℕ) (s : List Stmt) → SpellsText text s → AreBounded s
