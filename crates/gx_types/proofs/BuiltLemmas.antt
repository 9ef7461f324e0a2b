-- Statements that are tested one after the other.
use Rattle.std.proofs.Common.{◌≡◌, ℕ, ◌+◌, ◌<◌, ◌≤◌, true, false, Ok, Err, None, List, ◌∷◌, length, drop, get_or, refl, sym, ap, ◌∙◌, arith}
use Rattle.std.proofs.lemmas.List.{drop_all, drop_more}
use Rattle.gx_syntax_tree.specs.declared.stmt.Stmt.{Stmt}
use Rattle.gx_types.specs.Built.{built_statements, is_built}
use Rattle.gx_types.specs.declared.type_stop.TypeStop.TheVariants as stop
use Rattle.gx_types_exprs.specs.declared.type_kind.TypeKind.TheVariants as type_kind

-- the first i statements are run
pub record AreBuilt (xs : List Stmt) (i number : ℕ) : Type 0 where
  pub counted : number ≡ i + 1
  pub rest : built_statements number (drop i xs) ≡ built_statements 1 xs

pub rest-is : {A : Type 0} (xs : List A) (i : ℕ) (x : A) → i < length xs → x ≡ get_or xs i x → drop i xs ≡ x ∷ drop (i + 1) xs
rest-is xs i x below is = drop_more xs i x below ∙ ap (λ y. y ∷ drop (i + 1) xs) (sym is)

pub built-next : (xs : List Stmt) (i number : ℕ) (x : Stmt) → i < length xs → x ≡ get_or xs i x → AreBuilt xs i number → is_built x ≡ true → AreBuilt xs (i + 1) (number + 1)
built-next xs i number x below is h built =
    let here : built_statements number (drop i xs) ≡ built_statements (number + 1) (drop (i + 1) xs) = ap (built_statements number) (rest-is xs i x below is) ∙ rw built refl in
    record { counted = omega (arith, h.counted); rest = sym here ∙ h.rest }

pub built-stop : (xs : List Stmt) (i number : ℕ) (x : Stmt) → i < length xs → x ≡ get_or xs i x → AreBuilt xs i number → is_built x ≡ false
    → built_statements 1 xs ≡ Err (stop.At number None type_kind.NotBuilt)
built-stop xs i number x below is h built = sym h.rest ∙ ap (built_statements number) (rest-is xs i x below is) ∙ rw built refl

pub built-all : (xs : List Stmt) (i number : ℕ) → length xs ≤ i → AreBuilt xs i number → built_statements 1 xs ≡ Ok tt
built-all xs i number past h = sym h.rest ∙ ap (built_statements number) (drop_all i xs past)
