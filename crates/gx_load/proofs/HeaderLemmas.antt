-- The search for a name in a header, field by field.
use Rattle.std.proofs.Common.{take, ap, option_map, ◌≡◌, ◌+◌, ◌++◌, ◌⊎◌, inl, inr, length-append, ◌≤◌, slice_get, Ok, [], ◌∷◌, ℕ, List, Option, None, Some, true, false, length, map, drop, refl, zero, suc, add-one}
use Rattle.std.proofs.lemmas.List.{drop_all, length-map}
use Rattle.std.proofs.Math.Seq.{drop-nil}
use Rattle.std.specs.List.{position_from}
use Rattle.std.specs.Str.{bytes_eq}
use Rattle.csv.specs.Records.{field_at}
use Rattle.gx_rows.specs.Columns.{Column, names_of}
use Rattle.gx_rows.specs.Results.{try_cons}
use Rattle.gx_rows.specs.declared.value.ValueKind.{ValueKind}
use Rattle.gx_load.specs.Cells.{trim}
use Rattle.gx_load.specs.Loading.{key_names, column_position, positions_from}

-- the first position of a name among the fields from this one on
abbrev pub position_after : ℕ → List ℕ → List (List ℕ) → Option ℕ
position_after position name header = position_from (λ n. bytes_eq n name) position (map trim (drop position header))

-- the field that is at a position comes first of those from there on
drop-field : (fields : List (List ℕ)) (position : ℕ) (field : List ℕ)
    → field_at fields position ≡ Some field → drop position fields ≡ field ∷ drop (suc position) fields
unfolding field_at
drop-field [] position field e = cc e
drop-field (f ∷ fs) zero field e = cc e
drop-field (f ∷ fs) (suc i) field e = drop-field fs i field e

-- the same of any list
drop-entry : {A : Type 0} (xs : List A) (i : ℕ) (x : A) → slice_get xs i ≡ Some x → drop i xs ≡ x ∷ drop (suc i) xs
drop-entry [] i x e = cc e
drop-entry (y ∷ ys) zero x e = cc e
drop-entry (y ∷ ys) (suc i) x e = drop-entry ys i x e

-- past the last field there is none
drop-no_field : (fields : List (List ℕ)) (position : ℕ) → field_at fields position ≡ None → drop position fields ≡ []
unfolding field_at
drop-no_field [] position e = drop-nil position
drop-no_field (f ∷ fs) zero e = cc e
drop-no_field (f ∷ fs) (suc i) e = drop-no_field fs i e

-- a field of another name is passed over
pub position_after-other : (name : List ℕ) (header : List (List ℕ)) (position : ℕ) (field : List ℕ)
    → field_at header position ≡ Some field → bytes_eq (trim field) name ≡ false
    → position_after position name header ≡ position_after (position + 1) name header
position_after-other name header position field e other = rw (drop-field header position field e, other, add-one) refl

-- a field of the name is its first position
pub position_after-same : (name : List ℕ) (header : List (List ℕ)) (position : ℕ) (field : List ℕ)
    → field_at header position ≡ Some field → bytes_eq (trim field) name ≡ true
    → position_after position name header ≡ Some position
position_after-same name header position field e same = rw (drop-field header position field e, same) refl

-- past the last field the name has no position
pub position_after-none : (name : List ℕ) (header : List (List ℕ)) (position : ℕ)
    → field_at header position ≡ None → position_after position name header ≡ None
position_after-none name header position e = rw (drop-no_field header position e) refl

-- the positions from a column on
pub positions_from-step : (column : ℕ) (names : List (List ℕ)) (name : List ℕ) (header : List (List ℕ))
    → slice_get names column ≡ Some name
    → positions_from column (drop column names) header ≡ try_cons (column_position column name header) (positions_from (column + 1) (drop (column + 1) names) header)
unfolding positions_from
positions_from-step column names name header e = rw (drop-entry names column name e, add-one) refl

-- past the last column no position is rest
pub positions_from-done : (column : ℕ) (names : List (List ℕ)) (header : List (List ℕ))
    → length names ≤ column → positions_from column (drop column names) header ≡ Ok []
unfolding positions_from
positions_from-done column names header past = rw (drop_all column names past) refl

-- how many names there are
pub length-column_names : (keys : ℕ) (columns : List Column) → (keys ≡ 1) ⊎ (keys ≡ 2) → length (key_names keys ++ names_of columns) ≡ keys + length columns
length-column_names keys columns (inl one) = rw (one, length-append, length-map) refl
length-column_names keys columns (inr two) = rw (two, length-append, length-map) refl

-- the kinds of the columns before one more
kinds-suc : (columns : List Column) (i : ℕ) (kind : ValueKind) → option_map (λ c. c.1) (slice_get columns i) ≡ Some kind
    → map (λ (c : Column). c.1) (take (suc i) columns) ≡ map (λ (c : Column). c.1) (take i columns) ++ kind ∷ []
kinds-suc [] i kind e = cc e
kinds-suc (c ∷ cs) zero kind e = let same : c.1 ≡ kind = cc in ap (λ (k : ValueKind). k ∷ []) same
kinds-suc (c ∷ cs) (suc i) kind e = ap (λ (ks : List ValueKind). c.1 ∷ ks) (kinds-suc cs i kind e)

pub kinds-more : (columns : List Column) (i : ℕ) (kind : ValueKind) → option_map (λ c. c.1) (slice_get columns i) ≡ Some kind
    → map (λ (c : Column). c.1) (take (i + 1) columns) ≡ map (λ (c : Column). c.1) (take i columns) ++ kind ∷ []
kinds-more columns i kind e = rw (add-one i) (kinds-suc columns i kind e)
