-- Lists of columns, walked by position.
use Rattle.std.proofs.Common.{◌≡◌, ℕ, ◌+◌, ◌<◌, ◌≤◌, Bool, true, false, not, ◌&&◌, IsPermutation, Option, Some, None, ◌⊎◌, inl, inr, List, [], ◌∷◌, ◌++◌, length, map, take, drop, get_or, refl, sym, ap, subst, ◌∙◌, arith}
use Rattle.std.specs.Prelude.{slice_get, option_map, zip}
use Rattle.std.specs.Cmp.Lexicographic.{pointwise}
use Rattle.std.specs.List.{AllByRecursion, IsDistinct}
use Rattle.std.specs.Str.{bytes_eq}
use Rattle.std.proofs.lemmas.Bool.{not-false, not-true}
use Rattle.std.proofs.lemmas.List.{append-nil, drop_more, length-map, take-map, take_more}
use Rattle.std.proofs.lemmas.List.Sorted.{length_permutation}
use Rattle.std.proofs.lemmas.Option.{get_or_from_slice_get, slice_get_read, slice_get_within, slice_get-map}
use Rattle.std.proofs.iter.Yields.{fronts}
use Rattle.std.proofs.lemmas.Iterator.{zips}
use Rattle.std.proofs.lemmas.Slice.Zip.{either_empty_from_Zip, length-zip}
use Rattle.std.specs.Iterator.Adapters.{zip_first, zip_second}
use Rattle.std.specs.declared.iter.Zip.{Zip}
use Rattle.std.specs.declared.slice.Iter.{Iter}
use Rattle.std.specs.Slice.Iter.{iter_rest}
use denote.Ref.{Bor}
use Rattle.gx_rows.specs.Columns.{Column, HasDistinctNames, names_of}
use Rattle.gx_rows.specs.declared.value.ValueKind.{ValueKind}
use Rattle.gx_types_clauses.specs.SameColumns.{is_same_column, is_same_kind}
use Rattle.gx_types_clauses.specs.ClauseBounds.{IsColumnList}

-- ---- two lists, compared item by item

-- the first i items agree, so that the rest decides; both lists have n items
pub record IsComparedFrom {A B : Type 0} (E : A → B → Bool) (xs : List A) (ys : List B) (i n : ℕ) : Type 0 where
  pub left_long : n ≡ length xs
  pub right_long : n ≡ length ys
  pub so_far : pointwise E (drop i xs) (drop i ys) ≡ pointwise E xs ys

and-false : (b : Bool) → (b && false) ≡ false
and-false true = refl
and-false false = refl

-- the rest begins with the item at i
rest-at : {A : Type 0} (xs : List A) (i : ℕ) (x : A) → slice_get xs i ≡ Some x → drop i xs ≡ x ∷ drop (i + 1) xs
rest-at xs i x is = drop_more xs i x (slice_get_within xs i x is) ∙ ap (λ y. y ∷ drop (i + 1) xs) (get_or_from_slice_get xs i x x is)

module _ {A B : Type 0} (E : A → B → Bool) (xs : List A) (ys : List B) (i n : ℕ) where
  rest-both : (x : A) (y : B) → IsComparedFrom E xs ys i n → slice_get xs i ≡ Some x → slice_get ys i ≡ Some y
      → (E x y && pointwise E (drop (i + 1) xs) (drop (i + 1) ys)) ≡ pointwise E xs ys
  rest-both x y h at also =
      subst (λ zs. pointwise E zs (y ∷ drop (i + 1) ys) ≡ pointwise E xs ys) (rest-at xs i x at)
      (subst (λ zs. pointwise E (drop i xs) zs ≡ pointwise E xs ys) (rest-at ys i y also) h.so_far)

  pub compared-next : (x : A) (y : B) → IsComparedFrom E xs ys i n → slice_get xs i ≡ Some x → slice_get ys i ≡ Some y → E x y ≡ true → IsComparedFrom E xs ys (i + 1) n
  compared-next x y h at also same = record {
    left_long = h.left_long;
    right_long = h.right_long;
    so_far = ap (λ b. b && pointwise E (drop (i + 1) xs) (drop (i + 1) ys)) (sym same) ∙ rest-both x y h at also;
  }

  pub compared-stop : (x : A) (y : B) → IsComparedFrom E xs ys i n → slice_get xs i ≡ Some x → slice_get ys i ≡ Some y → E x y ≡ false → false ≡ pointwise E xs ys
  compared-stop x y h at also other = ap (λ b. b && pointwise E (drop (i + 1) xs) (drop (i + 1) ys)) (sym other) ∙ rest-both x y h at also

-- the item at i, in a list of what f makes of each
pub mapped-at : {A B : Type 0} (f : A → B) (xs : List A) (i : ℕ) (x : A) (y : B) → i < length xs → x ≡ get_or xs i x → y ≡ f x → slice_get (map f xs) i ≡ Some y
mapped-at f xs i x y below is made = slice_get-map f xs i ∙ ap (option_map f) (slice_get_read xs (length xs) i x refl below is) ∙ ap Some (sym made)

-- ---- columns

-- the kind at i, among all kinds
pub kind-at : (columns : List Column) (i : ℕ) (k : ValueKind) → option_map (λ c. c.1) (slice_get columns i) ≡ Some k → slice_get (map (λ (c : Column). c.1) columns) i ≡ Some k
kind-at columns i k is = slice_get-map (λ (c : Column). c.1) columns i ∙ is

of-both : (c : Option Column) (name : List ℕ) (k : ValueKind) → option_map (λ c. c.0) c ≡ Some name → option_map (λ c. c.1) c ≡ Some k → c ≡ Some (name, k)
of-both None name k named kind = cc
of-both (Some (m, j)) name k named kind = cc

-- the column at i has its name and its kind
pub column-at : (columns : List Column) (i : ℕ) (name : List ℕ) (k : ValueKind) → slice_get (names_of columns) i ≡ Some name → option_map (λ c. c.1) (slice_get columns i) ≡ Some k
    → slice_get columns i ≡ Some (name, k)
column-at columns i name k named kind = of-both (slice_get columns i) name k (sym (slice_get-map (λ (c : Column). c.0) columns i) ∙ named) kind

from-name : (c : Option Column) (name : List ℕ) → option_map (λ c. c.0) c ≡ Some name → (k : ValueKind) × (c ≡ Some (name, k))
from-name None name named = absurd (cc)
from-name (Some (m, k)) name named = (k, cc)

name-at : (columns : List Column) (i : ℕ) (name : List ℕ) → slice_get (names_of columns) i ≡ Some name → (k : ValueKind) × (slice_get columns i ≡ Some (name, k))
name-at columns i name named = from-name (slice_get columns i) name (sym (slice_get-map (λ (c : Column). c.0) columns i) ∙ named)

module _ (xs ys : List Column) (i n : ℕ) (name other : List ℕ) where
  -- columns of other names differ
  pub other-name : IsComparedFrom is_same_column xs ys i n → slice_get (names_of xs) i ≡ Some name → slice_get (names_of ys) i ≡ Some other → true ≡ not (bytes_eq name other)
      → false ≡ pointwise is_same_column xs ys
  other-name h at also differ =
      let x = name-at xs i name at in
      let y = name-at ys i other also in
      compared-stop is_same_column xs ys i n (name, x.0) (other, y.0) h x.1 y.1 (rw (not-true (bytes_eq name other) (sym differ)) refl)

  pub other-kind : (k l : ValueKind) → IsComparedFrom is_same_column xs ys i n → slice_get (names_of xs) i ≡ Some name → slice_get (names_of ys) i ≡ Some other
      → option_map (λ c. c.1) (slice_get xs i) ≡ Some k → option_map (λ c. c.1) (slice_get ys i) ≡ Some l → is_same_kind k l ≡ false
      → false ≡ pointwise is_same_column xs ys
  other-kind k l h at also kind also_kind differ =
      compared-stop is_same_column xs ys i n (name, k) (other, l) h (column-at xs i name k at kind) (column-at ys i other l also also_kind) (rw differ (and-false (bytes_eq name other)))

  pub same-column : (k l : ValueKind) → IsComparedFrom is_same_column xs ys i n → slice_get (names_of xs) i ≡ Some name → slice_get (names_of ys) i ≡ Some other
      → option_map (λ c. c.1) (slice_get xs i) ≡ Some k → option_map (λ c. c.1) (slice_get ys i) ≡ Some l → false ≡ not (bytes_eq name other) → is_same_kind k l ≡ true
      → IsComparedFrom is_same_column xs ys (i + 1) n
  same-column k l h at also kind also_kind same alike =
      compared-next is_same_column xs ys i n (name, k) (other, l) h (column-at xs i name k at kind) (column-at ys i other l also also_kind) (rw (not-false (bytes_eq name other) (sym same), alike) refl)

-- one kind more
pub kinds-more : (columns : List Column) (i : ℕ) (k : ValueKind) → option_map (λ c. c.1) (slice_get columns i) ≡ Some k
    → map (λ (c : Column). c.1) (take (i + 1) columns) ≡ map (λ (c : Column). c.1) (take i columns) ++ k ∷ []
kinds-more columns i k is =
    let kinds = map (λ (c : Column). c.1) columns in
    let at : slice_get kinds i ≡ Some k = kind-at columns i k is in
    sym (take-map (λ (c : Column). c.1) (i + 1) columns) ∙ take_more kinds i k (slice_get_within kinds i k at)
    ∙ rw (get_or_from_slice_get kinds i k k at, take-map (λ (c : Column). c.1) i columns) refl

-- ---- two lists, walked side by side

-- the pairs that a walk has before it
abbrev pub pairs_left : {A B : Type 0} → Zip (Iter A) (Iter B) → List (A × B)
pairs_left s = zip (iter_rest (zip_first s)) (iter_rest (zip_second s))

zip-none : {A B : Type 0} (xs : List A) (ys : List B) → (xs ≡ []) ⊎ (ys ≡ []) → zip xs ys ≡ []
zip-none [] ys e = refl
zip-none (x ∷ xs) [] e = refl
zip-none (x ∷ xs) (y ∷ ys) (inl e) = cc
zip-none (x ∷ xs) (y ∷ ys) (inr e) = cc

pub pairs-none : {A B : Type 0} (s t : Zip (Iter A) (Iter B)) (r : Option (Bor A × Bor B))
    → r ≡ None → zips fronts fronts s r t → pairs_left s ≡ []
pairs-none s t r e h =
    zip-none (iter_rest (zip_first s)) (iter_rest (zip_second s)) (either_empty_from_Zip s t r e h)

-- what f makes of all pairs is made
pub made-all : {A B C : Type 0} (f : A × B → C) (done all : List C) (s t : Zip (Iter A) (Iter B))
    (r : Option (Bor A × Bor B))
    → r ≡ None → zips fronts fronts s r t → done ++ map f (pairs_left s) ≡ all → done ≡ all
made-all f done all s t r e h so_far =
    sym (append-nil done) ∙ ap (λ ps. done ++ map f ps) (sym (pairs-none s t r e h)) ∙ so_far

-- the first of each pair, changed before or after
pub map-firsts : {A B C : Type 0} (f : A → C) (xs : List A) (ys : List B) → map (λ (p : A × B). (f p.0, p.1)) (zip xs ys) ≡ zip (map f xs) ys
map-firsts f [] ys = refl
map-firsts f (x ∷ xs) [] = refl
map-firsts f (x ∷ xs) (y ∷ ys) = ap (λ ps. (f x, y) ∷ ps) (map-firsts f xs ys)

-- ---- names of columns that are made of others

names-made : {A : Type 0} (name : A → List ℕ) (kind : A → ValueKind) (xs : List A) → names_of (map (λ x. (name x, kind x)) xs) ≡ map name xs
names-made name kind [] = refl
names-made name kind (x ∷ xs) = ap (λ ns. name x ∷ ns) (names-made name kind xs)

-- columns of distinct names have distinct names
pub made-distinct : {A : Type 0} (name : A → List ℕ) (kind : A → ValueKind) (xs : List A) (columns : List Column)
    → columns ≡ map (λ x. (name x, kind x)) xs → IsDistinct bytes_eq (map name xs) → HasDistinctNames columns
made-distinct name kind xs columns are distinct = subst HasDistinctNames (sym are) (subst (IsDistinct bytes_eq) (sym (names-made name kind xs)) distinct)

module _ {A B : Type 0} (name : A → List ℕ) (kind : A × B → ValueKind) where
  abbrev pub paired_columns : List A → List B → List Column
  paired_columns xs ys = map (λ p. (name p.0, kind p)) (zip xs ys)

  paired-apart : (n : List ℕ) (xs : List A) (ys : List B) → AllByRecursion (λ m. bytes_eq n m ≡ false) (map name xs) → AllByRecursion (λ m. bytes_eq n m ≡ false) (names_of (paired_columns xs ys))
  paired-apart n [] ys h = tt
  paired-apart n (x ∷ xs) [] h = tt
  paired-apart n (x ∷ xs) (y ∷ ys) h = (h.0, paired-apart n xs ys h.1)

  paired-distinct : (xs : List A) (ys : List B) → IsDistinct bytes_eq (map name xs) → HasDistinctNames (paired_columns xs ys)
  unfolding IsDistinct
  paired-distinct [] ys h = tt
  paired-distinct (x ∷ xs) [] h = tt
  paired-distinct (x ∷ xs) (y ∷ ys) h = (paired-apart (name x) xs ys h.0, paired-distinct xs ys h.1)

  -- the same of columns whose kinds come from a second list
  pub made-paired : (xs : List A) (ys : List B) (columns : List Column) → columns ≡ paired_columns xs ys → IsColumnList (map name xs) → (length columns ≤ 16) × HasDistinctNames columns
  made-paired xs ys columns are h = (
    omega (arith, ap length are, length-map {B = Column} (zip xs ys) (λ (p : A × B). (name p.0, kind p)), length-zip xs ys, length-map xs name, h.few),
    subst HasDistinctNames (sym are) (paired-distinct xs ys h.distinct),
  )

-- ---- constants

-- the empty list has no other order
pub empty-sorted : {A : Type 0} (xs : List A) → IsPermutation [] xs → xs ≡ []
empty-sorted [] p = refl
empty-sorted (x ∷ xs) p = absurd (omega (arith, length_permutation [] (x ∷ xs) p))
