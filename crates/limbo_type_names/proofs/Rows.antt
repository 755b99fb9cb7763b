-- Declarations of the code by their forms, and entries in their order.
use Rattle.std.proofs.Common.{◌≡◌, ◌<◌, ◌+◌, ◌++◌, ◌∷◌, [], ℕ, zero, suc, List, Option, Some, false, length, get_or, slice_get, take, map, refl, sym, ap, ◌∙◌, arith}
use Rattle.std.specs.Borrow.{Bor}
use Rattle.std.proofs.lemmas.List.{take-map, take_more, map-append}
use Rattle.limbo_tree.specs.declared.types.TypeTree as code_type
use Rattle.limbo_tree.specs.declared.name.Name as code_name
use Rattle.limbo_tree.specs.declared.decl.Member as code_member
use Rattle.limbo_tree.specs.declared.decl.Variant as code_variant
use Rattle.limbo_tree.specs.declared.decl.Field as code_field
use Rattle.limbo_declarations.specs.declared.row.Declared as code
use Rattle.limbo_declarations.specs.declared.row.Declared.TheVariants as declared
use Rattle.limbo_declarations.specs.View.{view_declared}
use Rattle.limbo_entries.specs.declared.entry.Entry as code_entry
use Rattle.limbo_entries.specs.View.{view_entry, entries_of, key, keys}
use Rattle.limbo_entries.specs.Growing.{LeadsOutwards}
use Rattle.limbo_naming.specs.Naming.{is_adt, is_module, is_variant}
use Rattle.limbo_type_names.specs.Means.{is_type}

pub is_plain : (d : code.Declared) → ((ms : Bor (List code_member.Member)) (pick : Option (Bor (List code_variant.Variant))) → d ≡ declared.Adt ms pick → ⊥)
    → ((ms : Bor (List code_member.Member)) → d ≡ declared.Module ms → ⊥) → ((fs : Bor (List code_field.Field)) → d ≡ declared.Case fs → ⊥)
    → (is_adt (view_declared d) ≡ false) × (is_module (view_declared d) ≡ false) × (is_variant (view_declared d) ≡ false)
is_plain (declared.Adt ms pick) a b c = absurd (a ms pick refl)
is_plain (declared.Module ms) a b c = absurd (b ms refl)
is_plain (declared.Case fs) a b c = absurd (c fs refl)
is_plain _ a b c = (refl, refl, refl)

pub is_other : (d : code.Declared) → ((ms : Bor (List code_member.Member)) (pick : Option (Bor (List code_variant.Variant))) → d ≡ declared.Adt ms pick → ⊥)
    → ((ms : Bor (List code_member.Member)) → d ≡ declared.Module ms → ⊥) → ((t : Bor code_type.TypeTree) → d ≡ declared.Alias t → ⊥)
    → ((source : Bor code_name.Name) → d ≡ declared.Imported source → ⊥) → is_type (view_declared d) ≡ false
is_other (declared.Adt ms pick) a b c e = absurd (a ms pick refl)
is_other (declared.Module ms) a b c e = absurd (b ms refl)
is_other (declared.Alias t) a b c e = absurd (c t refl)
is_other (declared.Imported source) a b c e = absurd (e source refl)
is_other _ a b c e = refl

-- ---- what stands before an entry

pub one_more : (all : List code_entry.Entry) (i : ℕ) (e : code_entry.Entry) → i < length all → e ≡ get_or all i e
    → take (i + 1) (entries_of all) ≡ take i (entries_of all) ++ (view_entry e ∷ [])
one_more all i e l f =
    take-map view_entry (i + 1) all ∙ ap (map view_entry) (take_more all i e l) ∙ map-append view_entry (take i all) (get_or all i e ∷ [])
    ∙ ap (λ x. map view_entry (take i all) ++ (view_entry x ∷ [])) (sym f) ∙ ap (λ xs. xs ++ (view_entry e ∷ [])) (sym (take-map view_entry i all))

key_at : (all : List code_entry.Entry) (i : ℕ) (e : code_entry.Entry) → i < length all → e ≡ get_or all i e → slice_get (keys all) i ≡ Some (key e)
key_at [] i e l f = absurd (omega arith)
key_at (x ∷ all) zero e l f = ap (λ z. Some (key z)) (sym f)
key_at (x ∷ all) (suc i) e l f = key_at all i e (omega arith) f

-- a declaration stands behind the one inside which it stands
pub outer_before : (all : List code_entry.Entry) → LeadsOutwards (keys all) → (i a : ℕ) (e : code_entry.Entry) → i < length all → e ≡ get_or all i e → e.within ≡ Some a
    → a < i
outer_before all out i a e l f w =
    out a i e.row.name.now.text (key_at all i e l f ∙ ap (λ (o : Option ℕ). let r : Option (Option ℕ × List ℕ) = Some (o, e.row.name.now.text) in r) w)
