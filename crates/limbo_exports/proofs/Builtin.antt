-- The numbers of the built-in module, and of its file descriptors' adt.
use Rattle.std.proofs.Common.{◌≡◌, ◌&&◌, ℕ, Bool, true, false, List, Option, Some, None, take, slice_get, refl, sym, ap, ◌∙◌}
use Rattle.std.specs.Prelude.{codes}
use Rattle.limbo_declarations.specs.Rows as rows
use Rattle.limbo_declarations.specs.Rows.{Declared}
use Rattle.limbo_scope.specs.declared.meaning.Meaning.{Meaning}
use Rattle.limbo_entries.specs.Entries.{Entry}
use Rattle.limbo_meanings.specs.declared.kind.Kind.{Kind}
use Rattle.limbo_meanings.specs.declared.kind.Kind.TheVariants as kind
use Rattle.limbo_meanings.specs.Kinds.{kind_in, kind_of}
use Rattle.limbo_meanings.specs.Meanings.{many_of, meaning_of, numbered}
use Rattle.std.specs.Prelude.{option_map}
use Rattle.limbo_exports.specs.System.{is_module, is_adt, is_same, stands_in, module_in, adt_in}
use Rattle.limbo_exports.specs.Laws.{SystemHasNumber, FdHasNumber}

left : (a b : Bool) → (a && b) ≡ true → a ≡ true
left true b h = refl
left false b h = absurd cc

module_kind : (own out : Bool) (d : Declared) → is_module d ≡ true → kind_in own out d ≡ Some kind.Module
module_kind own out (rows.Module ms) h = refl
module_kind own out _ h = absurd cc

adt_kind : (own out : Bool) (d : Declared) → is_adt d ≡ true → kind_in own out d ≡ Some kind.Adt
adt_kind own out (rows.Adt ms pick) h = refl
adt_kind own out _ h = absurd cc

meant : (es : List Entry) (m k : ℕ) (e : Entry) (l : Kind) → kind_of es m e ≡ Some l → meaning_of es m k e ≡ Some (numbered l (many_of es
    m l (take k es)))
meant es m k e l h = ap (option_map (λ k'. numbered k' (many_of es m k' (take k es)))) h

told : (f : Option Meaning → Option ℕ) (xs : List (Option Meaning)) (k : ℕ) (x : Option Meaning) → slice_get xs k ≡ Some x
    → (elim (slice_get xs k) [ None ↦ None | Some x ↦ f x ]) ≡ f x
told f xs k x h = ap (λ (z : Option (Option Meaning)). elim z [ None ↦ None | Some x ↦ f x ]) h

pub system_has : SystemHasNumber
system_has es m k means are first =
    let e = first.entry in
    let t = left (is_module e.row.means) (is_same e.row.path (codes "sys.m")) first.holds in
    told module_in means k (meaning_of es m k e) (are k e first.there)
    ∙ ap module_in (meant es m k e kind.Module (module_kind _ _ e.row.means t))

pub fd_has : FdHasNumber
fd_has es m k system means are first =
    let e = first.entry in
    let b = left (is_adt e.row.means && stands_in system e.within) (is_same e.row.name (codes "FD")) first.holds in
    let t = left (is_adt e.row.means) (stands_in system e.within) b in
    told adt_in means k (meaning_of es m k e) (are k e first.there)
    ∙ ap adt_in (meant es m k e kind.Adt (adt_kind _ _ e.row.means t))
