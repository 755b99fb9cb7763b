-- The names of modules, one after the other.
use Rattle.std.proofs.Common.{◌≡◌, ◌++◌, ◌∷◌, [], List, true, false, if◌then◌else◌, refl, sym, ap, ◌∙◌, append_assoc}
use Rattle.std.specs.Borrow.{Bor}
use Rattle.limbo_tree.specs.declared.decl.Member as code_member
use Rattle.limbo_declarations.specs.declared.row.Declared as code
use Rattle.limbo_declarations.specs.declared.row.Declared.TheVariants as declared
use Rattle.limbo_declarations.specs.View.{view_declared}
use Rattle.limbo_entries.specs.Entries.{Entry}
use Rattle.limbo_naming.specs.Naming.{is_module}
use Rattle.limbo_source_adts.specs.Modules.{modules_of}

pub modules_push : (xs : List Entry) (e : Entry) → modules_of (xs ++ (e ∷ [])) ≡ modules_of xs ++ modules_of (e ∷ [])
modules_push [] e = refl
modules_push (x ∷ xs) e =
    ap (λ ns. (if is_module x.row.means then x.row.name ∷ [] else []) ++ ns) (modules_push xs e)
    ∙ sym (append_assoc (if is_module x.row.means then x.row.name ∷ [] else []) (modules_of xs) (modules_of (e ∷ [])))

-- where it is a module, or isn't
pub one_module : (e : Entry) → is_module e.row.means ≡ true → modules_of (e ∷ []) ≡ e.row.name ∷ []
one_module e h = ap (λ b. (if b then e.row.name ∷ [] else []) ++ []) h

pub none_module : (e : Entry) → is_module e.row.means ≡ false → modules_of (e ∷ []) ≡ []
none_module e h = ap (λ b. (if b then e.row.name ∷ [] else []) ++ []) h

pub not_module : (d : code.Declared) → ((ms : Bor (List code_member.Member)) → d ≡ declared.Module ms → ⊥) → is_module (view_declared d) ≡ false
not_module (declared.Module ms) a = absurd (a ms refl)
not_module _ a = refl
