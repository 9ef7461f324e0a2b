-- Which bytes separate words.
use Rattle.std.specs.Prelude.{ℕ, Bool}
use Rattle.gx_load.specs.Cells.{is_blank}
use Rattle.gx_load.specs.EdgeLists.{is_line_space}
use Rattle.gx_load.specs.declared.words.Separator.{Separator}
use Rattle.gx_load.specs.declared.words.Separator.TheVariants.{Blank, LineSpace}

-- the byte separates words
abbrev pub separates : Separator → ℕ → Bool
separates Blank = is_blank
separates LineSpace = is_line_space
