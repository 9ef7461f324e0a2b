-- Steps that read files, one after another.
use Rattle.std.proofs.Common.{◌≡◌, ℕ, ◌+◌, ◌-◌, ◌<◌, ◌≤◌, ◌⊎◌, inl, inr, List, length, Option, None, Some, Result, Ok, Err, refl, sym, ◌∙◌, arith}
use Rattle.std.specs.Prelude.{IsSomeAnd, slice_get}
use Rattle.std.proofs.Math.Seq.{drop-length}
use Rattle.gx_outside.specs.Contents.{Contents}
use Rattle.gx_outside.specs.Faults.{FaultCounted}
use Rattle.gx_print.specs.declared.status.Status.{Status}
use Rattle.gx_print.specs.declared.status.Status.TheVariants as status
use Rattle.gx_types_stmts.specs.declared.checked_stmt.CheckedStmt.{CheckedStmt}
use Rattle.gx_model.specs.DataFiles.{DataFile, LoadedSoFar, data_file_of, file_name, nothing_loaded, rows_of_script, with_file_if}
use Rattle.gx_model.specs.Values.{LoadedRows}
use Rattle.gx_run.specs.LoadedFiles.{HasLoaded, IsLoaded, file_of_number}
use Rattle.gx_run.specs.Steps.{NamesOnly, Reads, Refuses, RefusesUnknown}
use Rattle.gx_run.proofs.LaterStatements.{next_of}

-- ---- refusals

pub counted_since : (a b c : ℕ) → a ≤ b → FaultCounted b c → FaultCounted a c
counted_since a b c h (inl rose) = inl (omega (arith, h, rose))
counted_since a b c h (inr last) = inr last

pub names_more : (s : Status) (P Q : List ℕ → Type 0) → ((name : List ℕ) → P name → Q name) → NamesOnly s P → NamesOnly s Q
names_more status.Done P Q up h = tt
names_more status.Usage P Q up h = tt
names_more (status.Script stop) P Q up h = tt
names_more (status.Schedule line) P Q up h = tt
names_more (status.Data stop) P Q up h = tt
names_more (status.Fault fault) P Q up h = tt
names_more (status.Limit kind) P Q up h = tt
names_more (status.Source name) P Q up h = up name h
names_more status.Sink P Q up h = tt
names_more status.NoMemory P Q up h = tt

refuses_unknown_more : (s : Status) (counted later : Type 0) → (counted → later) → RefusesUnknown counted s → RefusesUnknown later s
refuses_unknown_more status.Done counted later up h = h
refuses_unknown_more status.Usage counted later up h = h
refuses_unknown_more (status.Script stop) counted later up h = tt
refuses_unknown_more (status.Schedule line) counted later up h = h
refuses_unknown_more (status.Data stop) counted later up h = tt
refuses_unknown_more (status.Fault fault) counted later up h = h
refuses_unknown_more (status.Limit kind) counted later up h = tt
refuses_unknown_more (status.Source name) counted later up h = up h
refuses_unknown_more status.Sink counted later up h = h
refuses_unknown_more status.NoMemory counted later up h = tt

source_more : {A B : Type 0} (name : List ℕ) (counted later : Type 0) (d : Result A Status) (e : Result B Status)
    → (counted → later) → ((t : Status) → d ≡ Err t → e ≡ Err t)
    → counted ⊎ (d ≡ Err (status.Source name)) → later ⊎ (e ≡ Err (status.Source name))
source_more name counted later d e up same (inl was) = inl (up was)
source_more name counted later d e up same (inr is) = inr (same (status.Source name) is)

refuses_more : {A B : Type 0} (s : Status) (counted later : Type 0) (d : Result A Status) (e : Result B Status)
    → (counted → later) → ((t : Status) → d ≡ Err t → e ≡ Err t) → Refuses counted s d → Refuses later s e
refuses_more status.Done counted later d e up same h = h
refuses_more status.Usage counted later d e up same h = h
refuses_more (status.Script stop) counted later d e up same h = same _ h
refuses_more (status.Schedule line) counted later d e up same h = h
refuses_more (status.Data stop) counted later d e up same h = same _ h
refuses_more (status.Fault fault) counted later d e up same h = h
refuses_more (status.Limit kind) counted later d e up same h = same _ h
refuses_more (status.Source name) counted later d e up same h = source_more name counted later d e up same h
refuses_more status.Sink counted later d e up same h = h
refuses_more status.NoMemory counted later d e up same h = tt

-- a refusal of a step is one of the step that it is a part of
pub reads_more : {A B C D : Type 0} (contents : Option Contents) (a b c : ℕ) (view : A → B) (seen : C → D) (s : Status)
    (d : Contents → Result B Status) (e : Contents → Result D Status)
    → a ≤ b → ((held : Contents) → contents ≡ Some held → (t : Status) → d held ≡ Err t → e held ≡ Err t)
    → Reads contents b c view (Err s) d → Reads contents a c seen (Err s) e
reads_more None a b c view seen s d e h same r =
    refuses_unknown_more s (FaultCounted b c) (FaultCounted a c) (counted_since a b c h) r
reads_more (Some held) a b c view seen s d e h same r =
    refuses_more s (FaultCounted b c) (FaultCounted a c) (d held) (e held) (counted_since a b c h) (same held refl) r

-- ---- the loop over load statements

pub loaded_nothing : (contents : Option Contents) (all : List CheckedStmt) → HasLoaded contents all 0 nothing_loaded
loaded_nothing None all = tt
loaded_nothing (Some held) all = refl

file_at : (all : List CheckedStmt) (n : ℕ) (x : CheckedStmt) → slice_get all n ≡ Some x → file_of_number all (n + 1) ≡ data_file_of x
file_at all n x is = let number : n + 1 - 1 ≡ n = omega arith in rw (number, is) refl

pub loaded_more : {A : Type 0} (contents : Option Contents) (all : List CheckedStmt) (n a b : ℕ) (so_far new : LoadedSoFar) (x : A)
    → n < length all → HasLoaded contents all n so_far
    → Reads contents a b (λ (y : A). new) (Ok x) (λ held. with_file_if held (n + 1) (file_of_number all (n + 1)) so_far)
    → HasLoaded contents all (n + 1) new
loaded_more None all n a b so_far new x within h r = tt
loaded_more (Some held) all n a b so_far new x within h r =
    let next = next_of all n within in
    let now = rw (file_at all n next.0 next.1) at r in
    h ∙ rw (next.2, now) refl

pub loaded_refused : {A C : Type 0} (contents : Option Contents) (all : List CheckedStmt) (n a b c : ℕ) (so_far : LoadedSoFar) (s : Status)
    (view : A → LoadedSoFar) (seen : C → LoadedRows)
    → n < length all → HasLoaded contents all n so_far → a ≤ b
    → Reads contents b c view (Err s) (λ held. with_file_if held (n + 1) (file_of_number all (n + 1)) so_far)
    → Reads contents a c seen (Err s) (λ held. rows_of_script held all)
loaded_refused contents all n a b c so_far s view seen within h le r =
    reads_more contents a b c view seen s _ _ le (λ held is t e. refused held t (rw is at h) e) r
  where
    refused : (held : Contents) (t : Status) → HasLoaded (Some held) all n so_far
        → with_file_if held (n + 1) (file_of_number all (n + 1)) so_far ≡ Err t → rows_of_script held all ≡ Err t
    refused held t k e =
        let next = next_of all n within in
        let now = rw (file_at all n next.0 next.1) at e in
        rw (k, next.2, now) refl

pub loaded_all : (contents : Option Contents) (all : List CheckedStmt) (a b : ℕ) (so_far : LoadedSoFar)
    → HasLoaded contents all (length all) so_far
    → Reads contents a b (λ (l : LoadedRows). l) (Ok so_far.loads) (λ held. rows_of_script held all)
loaded_all None all a b so_far h = tt
loaded_all (Some held) all a b so_far h = rw (h, drop-length all) refl

-- the name of the file of statement n + 1
pub loaded_name : (all : List CheckedStmt) (n : ℕ) (s : Status) (file : Option DataFile)
    → file ≡ file_of_number all (n + 1) → NamesOnly s (λ name. IsSomeAnd file (λ f. name ≡ file_name f)) → NamesOnly s (IsLoaded all)
loaded_name all n s file is h = names_more s _ _ (λ name k. is_loaded name file is k) h
  where
    is_loaded : (name : List ℕ) (f : Option DataFile) → f ≡ file_of_number all (n + 1) → IsSomeAnd f (λ g. name ≡ file_name g) → IsLoaded all name
    is_loaded name None e k = absurd k
    is_loaded name (Some g) e k = record { number = n + 1; file = g; is_file = sym e; is_name = k }
