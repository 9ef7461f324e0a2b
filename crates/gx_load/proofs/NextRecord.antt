-- One read of a reader, over the list of the remaining records.
use Rattle.std.proofs.Common.{Bor, ◌≡◌, ◌∙◌, ◌+◌, ℕ, Bool, true, false, List, [], ◌∷◌, length, Option, Some, refl, sym, ap, inl, arith, add-one}
use Rattle.std.proofs.lemmas.Bool.{false≢true}
use Rattle.std.specs.Bool.{MatchBool}
use Rattle.csv.proofs.ReadFacts.{rows-end, rows-more}
use Rattle.csv.specs.Machine.{Read, ends_at_end, next_record}
use Rattle.csv.specs.Reading.{Ready, Reached, ReadRecord, default_config, records_from}
use Rattle.csv.specs.declared.parser.State.{State}
use Rattle.csv.specs.declared.reader.Reader.{Reader}
use Rattle.csv.specs.declared.reader.Trim.TheVariants as trim
use Rattle.gx_load.specs.Remaining.{IsPlain, records_after, remaining_records}
use Rattle.gx_load.proofs.Machine.{next_record-lands, next_record-shorter, records_from-enough}

-- the records from a state between two are the next one and those after it
next_then_rest : (s s2 : State) (bytes rest : List ℕ) (fields : List (List ℕ)) (p : Read)
    → ends_at_end s ≡ false → next_record default_config s [] [] bytes ≡ Some p → fields ≡ p.0 → p.1 ≡ s2 → p.2 ≡ rest
    → (records_after s (Some bytes) ≡ fields ∷ records_after s2 (Some rest)) × (ends_at_end s2 ≡ false)
unfolding records_from
next_then_rest s s2 bytes rest fields p between found first state after =
    let shorter = next_record-shorter default_config s bytes p between found in
    let lands = (next_record-lands default_config s [] [] bytes p found).0 in
    let one : records_after s (Some bytes) ≡ p.0 ∷ records_from default_config (length bytes) p.1 p.2 = rw (add-one, found) refl in
    let same : records_from default_config (length bytes) p.1 p.2 ≡ records_after p.1 (Some p.2) =
    records_from-enough default_config (length bytes) (length p.2 + 1) p.1 p.2 lands shorter (omega arith) in
    rw (first, ← state, ← after) (one ∙ ap (λ (r : List (List (List ℕ))). p.0 ∷ r) same, lands)

-- a read that found a record took the first of the remaining ones
some : (a b : Reader (Bor (List ℕ))) (fields : List (List ℕ))
    → IsPlain a → b.first ≡ true → ReadRecord (λ s. Some s.now) a b true fields
    → (remaining_records true a ≡ fields ∷ remaining_records true b) × IsPlain b
unfolding Reached
some a b fields plain first read =
    let bytes = plain.known.0 in
    let more = rows-more (λ (s : Bor (List ℕ)). Some s.now) a b fields default_config a.state bytes bytes [] plain.config plain.known.1 (refl, refl) read in
    let p = more.2.0 in
    let next = next_then_rest a.state b.state bytes more.0 fields p plain.between more.2.1 more.2.2 more.2.3.0 more.2.3.1 in (
      ap (records_after a.state) plain.known.1 ∙ next.0 ∙ ap (λ (k : Option (List ℕ)). fields ∷ records_after b.state k) (sym more.1),
      record { trim = read.3 ∙ plain.trim; ready = inl first; config = read.2 ∙ plain.config; known = (more.0, more.1); between = next.1 },
    )

-- a read that found no record had none remaining
none : (a b : Reader (Bor (List ℕ))) (fields : List (List ℕ))
    → IsPlain a → ReadRecord (λ s. Some s.now) a b false fields → remaining_records true a ≡ []
unfolding records_from
none a b fields plain read =
    let ends = rows-end (λ (s : Bor (List ℕ)). Some s.now) a b fields default_config plain.known.0 plain.config plain.known.1 read in
    rw (plain.known.1, add-one, ends) refl

-- a read takes the first remaining record, if there is one, and the reader can then be called again
pub took : (a b : Reader (Bor (List ℕ))) (found : Bool) (fields : List (List ℕ))
    → IsPlain a → (a.trim ≡ trim.None → b.first ≡ true) → (a.trim ≡ trim.None → Ready a → ReadRecord (λ s. Some s.now) a b found fields)
    → MatchBool found (remaining_records true a ≡ fields ∷ remaining_records found b) ((remaining_records true a ≡ []) × (remaining_records found b ≡ []))
    × (found ≡ true → IsPlain b)
took a b true fields plain first read =
    let x = some a b fields plain (first plain.trim) (read plain.trim plain.ready) in
    (x.0, λ e. x.1)
took a b false fields plain first read = ((none a b fields plain (read plain.trim plain.ready), refl), λ e. absurd (false≢true e))
