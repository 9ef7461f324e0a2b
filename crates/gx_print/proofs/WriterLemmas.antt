-- A field and the end of a line, as a writer of `csv` writes them.
use Rattle.std.proofs.Common.{◌≡◌, ◌≢◌, ℕ, ◌+◌, ◌^◌, true, false, not, List, [], ◌∷◌, ◌++◌, length, IsUtf8, refl, sym, ◌∙◌, subst, arith, append_assoc, append-nil, length-append}
use Rattle.std.proofs.lemmas.Str.{IsUtf8-append}
use Rattle.std.specs.Prelude.{◌==◌, ◌||◌, ◌&&◌, ◌-◌, min, Vec, Some}
use Rattle.std.specs.declared.alloc.Global.{Global}
use Rattle.csv.specs.Writing.{field_text, fields_written, has_written, is_blank, next_sep, tail_text, writer_setup}
use Rattle.csv.specs.declared.writer.QuoteStyle.TheVariants as style
use Rattle.csv.specs.declared.writer.Writer.{Writer}
use Rattle.csv.proofs.WriteFacts.{blank-more, row-more, row-final}
use Rattle.gx_print.specs.RowTexts.{line_of_fields, line_writer}
use Rattle.gx_print.specs.WriterStates.{EndsLine, GrowsByField, IsAtLineStart, IsInLine, written_text}
use Rattle.gx_print.proofs.Utf8Fields.{field_utf8, separator_utf8, end_utf8}

-- what is known of a writer after a field
pub record HasField (v w : Writer (Vec ℕ Global)) (field : List ℕ) : Type 0 where
  pub text : ((writer_setup v).style ≢ style.NonNumeric) → written_text w
      ≡ written_text v ++ (next_sep (writer_setup v) (fields_written v) ++ field_text (writer_setup v) field)
  pub same : writer_setup w ≡ writer_setup v
  pub count : fields_written w ≡ min (fields_written v + 1) (2 ^ 64 - 1)
  pub wrote : has_written v ≡ false → ((writer_setup v).style ≢ style.NonNumeric)
      → has_written w ≡ not (length (field_text (writer_setup v) field) == 0)
  pub stays : has_written v ≡ true → has_written w ≡ true

necessary : style.Necessary ≢ style.NonNumeric
necessary e = cc e

pub field_grows : (v w : Writer (Vec ℕ Global)) (field : List ℕ)
    → IsUtf8 field → HasField v w field → GrowsByField v w field
field_grows v w field u h before fields few line =
    let size : length (fields ++ field ∷ []) ≡ length fields + 1 = length-append fields (field ∷ []) in
    let grown = h.text (rw line.setup necessary) in
    let text = rw (line.setup, line.count, line.text) at grown in
    let wrote : has_written v ≡ false → has_written w ≡ not (length (field_text line_writer field) == 0) =
    λ e. rw line.setup at (h.wrote e (rw line.setup necessary)) in
    let added = IsUtf8-append _ _ (separator_utf8 (fields_written v)) (field_utf8 field u) in
    record {
      setup = h.same ∙ line.setup;
      count = rw (h.count, line.count, size) (omega arith);
      blank =
          rw size (blank-more line_writer fields field (has_written v) (has_written w) line.blank wrote h.stays);
      text = rw (row-more line_writer fields field) (text ∙ append_assoc before _ _);
      utf8 = subst IsUtf8 (sym grown) (IsUtf8-append _ _ line.utf8 (rw line.setup added));
    }

-- what is known of a writer after the end of a line
pub record HasEnd (v w : Writer (Vec ℕ Global)) : Type 0 where
  pub bytes : written_text w ≡ written_text v ++ tail_text (writer_setup v) (has_written v) (fields_written v)
  pub fields : fields_written w ≡ 0
  pub wrote : has_written w ≡ false
  pub same : writer_setup w ≡ writer_setup v

pub line_ends : (v w : Writer (Vec ℕ Global)) → HasEnd v w → EndsLine v w
unfolding line_of_fields
line_ends v w h before fields line =
    let wrote = has_written v in
    let count = fields_written v in
    let bytes = rw line.setup at h.bytes in
    let blank : is_blank line_writer fields ≡ (not wrote && ((count == 0) || (count == 1))) =
    rw line.count line.blank in
    let start : IsAtLineStart w = record {
      setup = h.same ∙ line.setup;
      fields = h.fields;
      blank = h.wrote;
      utf8 = subst IsUtf8 (sym bytes) (IsUtf8-append _ _ line.utf8 (end_utf8 wrote count));
    } in
    let mid = Some (written_text v) in
    let new = Some (written_text w) in
    (start, row-final (Some before) mid new line_writer fields wrote count line.text blank bytes)

-- a line begins with no field
pub line_begins : (w : Writer (Vec ℕ Global)) → IsAtLineStart w → IsInLine (written_text w) [] w
unfolding is_blank
line_begins w start = record {
  setup = start.setup;
  count = start.fields;
  blank = rw start.blank refl;
  text = sym (append-nil _);
  utf8 = start.utf8;
}
