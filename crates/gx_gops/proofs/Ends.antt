-- The missing ends of one edge partition after another.
use Rattle.std.proofs.Common.{◌≡◌, Bool, ◌&&◌, ◌||◌, List, [], ◌∷◌, ◌++◌, Result, Ok, Err, OnOk, append_assoc, refl, sym, ap, ◌∙◌}
use Rattle.std.specs.List.{filter}
use Rattle.std.proofs.lemmas.List.Elements.{filter-append}
use Rattle.std.proofs.lemmas.List.Folds.{list_any-append}
use Rattle.gx_rows.specs.Order.{Edge}
use Rattle.gx_rows.specs.declared.vid.Vid.{Vid}
use Rattle.gx_index.specs.Ends.{IsSetOf}
use Rattle.gx_index.specs.Ids.{has_id, is_same_id}
use Rattle.gx_epart.specs.Edges.{sources_and_destinations}
use Rattle.gx_gops.specs.Tables.{HasSameIds, both_ends}
use Rattle.gx_gops.specs.RowLaws.{has_id-filter}

-- the next item, if it passes the test
pub filter-more : {X : Type 0} (test : X → Bool) (kept new rest all : List X) (x : X)
    → new ≡ kept ++ filter test (x ∷ []) → kept ++ filter test (x ∷ rest) ≡ all → new ++ filter test rest ≡ all
filter-more test kept new rest all x pushed so_far =
    ap (λ ys. ys ++ filter test rest) pushed
    ∙ append_assoc kept (filter test (x ∷ [])) (filter test rest)
    ∙ sym (ap (λ ys. kept ++ ys) (filter-append test (x ∷ []) rest))
    ∙ so_far

both_ends-are : (edges : List Edge) → sources_and_destinations edges ≡ both_ends edges
both_ends-are [] = refl
both_ends-are (e ∷ edges) = ap (λ ids. e.0 ∷ e.1 ∷ ids) (both_ends-are edges)

-- a test keeps the same identifiers of the distinct ends as of all ends
HasSameIds-distinct : (test : Vid → Bool) (edges : List Edge) (ends old new : List Vid) → IsSetOf (sources_and_destinations edges) ends
    → new ≡ old ++ filter test ends → HasSameIds new (old ++ filter test (both_ends edges))
HasSameIds-distinct test edges ends old new set added q =
    let same : has_id q ends ≡ has_id q (both_ends edges) = set.exact q ∙ ap (has_id q) (both_ends-are edges) in
    let kept : has_id q (filter test ends) ≡ has_id q (filter test (both_ends edges)) = has_id-filter test q ends ∙ ap (λ b. test q && b) same ∙ sym (has_id-filter test q (both_ends edges)) in
    ap (has_id q) added
    ∙ list_any-append (is_same_id q) old (filter test ends)
    ∙ ap (λ b. has_id q old || b) kept
    ∙ sym (list_any-append (is_same_id q) old (filter test (both_ends edges)))

pub same_if_ok : {A E : Type 0} (test : Vid → Bool) (edges : List Edge) (ends old new : List Vid) (r : Result A E) → IsSetOf (sources_and_destinations edges) ends
    → OnOk r (new ≡ old ++ filter test ends) → OnOk r (HasSameIds new (old ++ filter test (both_ends edges)))
same_if_ok test edges ends old new (Ok a) set added = HasSameIds-distinct test edges ends old new set added
same_if_ok test edges ends old new (Err e) set added = tt
