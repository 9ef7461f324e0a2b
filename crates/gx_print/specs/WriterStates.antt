-- A writer of `csv` over a vector of bytes, between lines and inside one.
use Rattle.std.specs.Prelude.{◌≡◌, ◌==◌, ◌||◌, ◌&&◌, ◌+◌, ◌<◌, ◌^◌, not, ◌++◌, ◌∷◌, [], ℕ, List, Vec, IsUtf8, false, length}
use Rattle.std.specs.declared.alloc.Global.{Global}
use Rattle.csv.specs.Writing.{fields_written, has_written, is_blank, row_body, writer_pending, writer_setup, writer_under}
use Rattle.csv.specs.declared.writer.Writer.{Writer}
use Rattle.gx_print.specs.RowTexts.{line_of_fields, line_writer}

-- what was written, with what is still in the writer's buffer
abbrev pub written_text : Writer (Vec ℕ Global) → List ℕ
written_text w = (writer_under w).items ++ writer_pending w

-- the writer writes as `line_writer` and is at the start of a line, and all it wrote is UTF-8
pub record IsAtLineStart (w : Writer (Vec ℕ Global)) : Type 0 where
  pub setup : writer_setup w ≡ line_writer
  pub fields : fields_written w ≡ 0
  pub blank : has_written w ≡ false
  pub utf8 : IsUtf8 (written_text w)

-- after this text, these fields of a line are written
pub record IsInLine (before : List ℕ) (fields : List (List ℕ)) (w : Writer (Vec ℕ Global)) : Type 0 where
  pub setup : writer_setup w ≡ line_writer
  pub count : fields_written w ≡ length fields
  pub blank : is_blank line_writer fields
      ≡ (not (has_written w) && ((length fields == 0) || (length fields == 1)))
  pub text : written_text w ≡ before ++ row_body line_writer fields
  pub utf8 : IsUtf8 (written_text w)

-- the line has one more field
abbrev pub GrowsByField : Writer (Vec ℕ Global) → Writer (Vec ℕ Global) → List ℕ → Type 0
GrowsByField v w field =
    (before : List ℕ) (fields : List (List ℕ)) → length fields + 1 < 2 ^ 64
    → IsInLine before fields v → IsInLine before (fields ++ field ∷ []) w

-- the line has ended
abbrev pub EndsLine : Writer (Vec ℕ Global) → Writer (Vec ℕ Global) → Type 0
EndsLine v w =
    (before : List ℕ) (fields : List (List ℕ)) → IsInLine before fields v
    → IsAtLineStart w × (written_text w ≡ before ++ line_of_fields fields)
