use Rattle.std.proofs.Common.{rules}
use Rattle.std.proofs.lemmas.List.Sorted.{answers_always}
use Rattle.gx_index.proofs.Searching.{IsSearchResult-hit, search-miss}
use Rattle.gx_index.proofs.search.find_under.Goals as goal

pub returns-in-Ok : goal.returns-in-Ok
returns-in-Ok g c =
    IsSearchResult-hit c.args.entries.now c.args.v c.in-Ok.i c.index-entries-i.result c.in-Ok.ensures.bound
    (c.in-Ok.ensures.position (λ e. e.0) (answers_always _ _ _ (λ f a r q k. search rules)))

pub returns-in-Err : goal.returns-in-Err
returns-in-Err g c =
    search-miss (λ e. e.0) c.args.v c.args.entries.now _ c.requires
    (c.in-Err.ensures.position (λ e. e.0) (answers_always _ _ _ (λ f a r q k. search rules)))
