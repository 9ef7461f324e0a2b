-- Names as the code keeps them, and as definitions see them.
use Rattle.std.proofs.Common.{◌≡◌, ℕ, ◌+◌, cond, List, [], ◌∷◌, ◌++◌, Option, Some, None, Ok, String, string_bytes, refl, sym, ap, ◌∙◌, arith}
use Rattle.std.proofs.lemmas.List.{map-append}
use Rattle.std.proofs.lemmas.List.Elements.{All-push, All-weaker}
use Rattle.std.proofs.lemmas.Map.Text.{hash_map_text_same}
use Rattle.std.specs.Map.{lookup}
use Rattle.std.specs.Str.{bytes_eq}
use Rattle.std.specs.String.{string_eq}
use Rattle.indexmap.specs.IndexMap.{IndexMap, insert_entry}
use Rattle.indexmap.proofs.CallerLemmas.{insert_entry-new}
use Rattle.gx_types_stmts.specs.KnownNames.{AreEarlier, IsEarlier, free_if, named_definitions}
use Rattle.gx_types_stmts.specs.declared.known.Definition.{Definition}

-- a look-up by bytes
pub lookup-named_definitions : {A : Type 0} (name : List ℕ) (es : List (String A × Definition))
    → lookup (bytes_eq name) (named_definitions es) ≡ lookup (λ k. bytes_eq name (string_bytes k)) es
lookup-named_definitions name [] = refl
lookup-named_definitions name (e ∷ es) =
    ap (λ rest. cond (bytes_eq name (string_bytes e.0)) (Some e.1) rest) (lookup-named_definitions name es)

-- a free name has no definition
pub none-if_free : (d : Option Definition) → free_if d ≡ Ok tt → d ≡ None
none-if_free None free = refl
none-if_free (Some d) free = cc

-- a free name is inserted after the others
pub named_definitions-insert : {A S : Type 0} (m : IndexMap (String A) Definition S) (key : String A) (name : List ℕ) (d : Definition)
    → name ≡ string_bytes key → lookup (bytes_eq name) (named_definitions m.entries) ≡ None
    → named_definitions (insert_entry string_eq m.entries key d) ≡ named_definitions m.entries ++ (name, d) ∷ []
named_definitions-insert m key name d is free =
    rw (
      insert_entry-new string_eq m key d
          ((hash_map_text_same key name m.entries is).0 ∙ sym (lookup-named_definitions name m.entries) ∙ free),
      map-append,
      is,
    ) refl

-- one statement more, which defines a name
pub AreEarlier-next : (count : ℕ) (names : List (List ℕ × Definition)) (name : List ℕ) (d : Definition)
    → AreEarlier count names → d.number ≡ count + 1 → AreEarlier (count + 1) (names ++ (name, d) ∷ [])
AreEarlier-next count names name d earlier next =
    All-push (λ e. IsEarlier (count + 1) e.1.number) names (name, d)
    (All-weaker (λ e. IsEarlier count e.1.number) (λ e. IsEarlier (count + 1) e.1.number) (λ e h. (h.0, omega (arith, h.1))) names earlier)
    (omega (arith, next), omega (arith, next))
