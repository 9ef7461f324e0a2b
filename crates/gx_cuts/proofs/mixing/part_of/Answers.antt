use Rattle.std.proofs.Common.{◌≡◌, ◌≤◌, ◌<◌, ◌%◌, ℕ, ◌-◌, ◌*◌, ◌^◌, bit_and, arith, ap, sym, ◌∙◌}
use Rattle.std.proofs.lemmas.Nat.{and_mask}
use Rattle.gx_cuts.proofs.mixing.part_of.Goals as goal

-- a mask of k bits is the remainder by 2 ^ k
masked : (n parts k : ℕ) → 2 ^ k ≤ parts → parts < 4294967296 → parts ≡ 1 * 2 ^ k % 4294967296
    → bit_and n (1 * 2 ^ k % 18446744073709551616 - 1) ≡ n % parts
masked n parts k le below is =
    let power : 1 * 2 ^ k % 18446744073709551616 ≡ 2 ^ k = omega (arith, le, below) in
    let same : parts ≡ 2 ^ k = omega (arith, le, below, is) in
    ap (λ m. bit_and n (m - 1)) power ∙ and_mask n k ∙ ap (λ m. n % m) (sym same)

-- src/mixing.rt:27:1
pub returns-then-parts-log-clause-exact : goal.returns-then-parts-log-clause-exact
returns-then-parts-log-clause-exact c = masked c.args.n c.args.parts c.ilog2-log.result c.ilog2-log.ensures.power_le c.ranges.parts.fits c.if-parts-log.true
