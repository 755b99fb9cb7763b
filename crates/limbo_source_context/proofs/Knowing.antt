-- What is found out of a source, in the words of its table.
use Rattle.std.proofs.Common.{◌≡◌, ℕ, Bool, List, Option, None, Some, slice_get, sym, ap, subst, ◌∙◌}
use Rattle.std.specs.Option.{IfSome, IfNone}
use Rattle.limbo_tree.specs.Exprs.{Expr}
use Rattle.limbo_constants.specs.declared.constant.Constant as source
use Rattle.limbo_entries.specs.declared.table.Table.{Table}
use Rattle.limbo_entries.specs.Entries.{Entry}
use Rattle.limbo_naming.specs.declared.naming.Naming.{Naming}
use Rattle.limbo_naming.specs.Told.{IsNaming}
use Rattle.limbo_type_names.specs.declared.names.TypeNames.{TypeNames}
use Rattle.limbo_type_names.specs.Told.{AreTypesOf}
use Rattle.limbo_constant_values.specs.Values.{Comes, initial_value}
use Rattle.limbo_constant_values.specs.Answers.{IsKnown}
use Rattle.limbo_constant_values.specs.Initials.{AreInitials}
use Rattle.limbo_exports.specs.System.{IsFirst, HasNone}
use Rattle.limbo_outline.specs.Outline.{AreInitial, known_at}
use Rattle.limbo_source_context.specs.SourceContext.{IsFound}

pub found : (test : Entry → Bool) (es : List Entry) (o : Option ℕ) → IfSome o (λ k. IsFirst test es k) → IfNone o (HasNone test es) →
    IsFound test es o
found test es None s n = n
found test es (Some k) s n = s

-- what is told of names is told of the table
pub moved : (P : Table → ℕ → Type 0) (t : TypeNames) (n : Naming) (table : Table) (m : ℕ) → AreTypesOf n t → IsNaming table m n
    → P t.naming.now.table.now t.naming.now.implemented → P table m
moved P t n table m a i p =
    let q : P n.table.now n.implemented = subst (λ (z : Naming). P z.table.now z.implemented) a.by_naming p in
    let r : P table n.implemented = subst (λ (z : Table). P z n.implemented) i.by_table q in
    subst (λ (z : ℕ). P table z) i.by_module r

pub known_is : (values : List (Option source.Constant)) (k : ℕ) (c : source.Constant) → known_at values k ≡ Some c → IsKnown values k c
known_is values k c h = go (slice_get values k) h
  where
    go : (o : Option (Option source.Constant)) → elim o [ None ↦ None | Some known ↦ known ] ≡ Some c → o ≡ Some (Some c)
    go None h = absurd cc
    go (Some o) h = ap Some h

pub initial_told : (es : List Entry) (m : ℕ) (initials : List (Option source.Constant)) → AreInitials es m initials → AreInitial es m
    initials
initial_told es m initials are k e expr c at is h =
    let i = are.known k c (known_is initials k c h) in
    let a : i.entry ≡ e = let f = i.there in cc in
    let b : Some i.expr ≡ Some expr = sym i.written ∙ ap (λ (z : Entry). initial_value z.row.means) a ∙ ap initial_value is in
    let d : i.expr ≡ expr = cc in
    subst (λ (z : Expr). Comes es m e.within None z c) d (subst (λ (z : Entry). Comes es m z.within None i.expr c) a i.comes)
