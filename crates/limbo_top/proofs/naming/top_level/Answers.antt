use Rattle.std.proofs.Common.{◌≡◌, ℕ, ◌++◌, List, Result, Ok, Err, IfOk, IfErr, map, refl, sym, ap, subst, ◌∙◌, rules}
use Rattle.std.specs.Borrow.{Bor}
use Rattle.std.proofs.lemmas.List.{map-append}
use Rattle.std.proofs.lemmas.Result.{err_from_is_err_and, IfErr-weaker}
use Rattle.inf_text.specs.declared.span.Span.{Span}
use Rattle.limbo_tree.specs.Decls.{Members}
use Rattle.limbo_tree.specs.View.{view_members}
use Rattle.limbo_declarations.specs.declared.row.Row as code_row
use Rattle.limbo_declarations.specs.Names.{names, AreOnce}
use Rattle.limbo_declarations.specs.Rows.{Row, rows_of_members}
use Rattle.limbo_declarations.specs.View.{rows_of, view_row}
use Rattle.limbo_top.specs.Tops.{Placed, Definition, declared, definitions, DeclaresModule, Alone}
use Rattle.limbo_top.specs.TopLevel.{row_names, IsTopLevel, HasNoTopLevel, DeclaresTwice, in_source, in_module, at_top}
use Rattle.limbo_top.specs.View.{placed, definitions_of}
use Rattle.limbo_top.specs.declared.fault.TopFault.TheVariants.{Twice}
use Rattle.limbo_top.proofs.TopLevels.{names_view, declared_once, members_once, all_once}
use Rattle.limbo_top.proofs.naming.top_level.Goals as goal

both_ok : {T E : Type 0} (r : Result T E) (P Q R : T → Type 0) → ((x : T) → P x → Q x → R x) → IfOk r P → IfOk r Q → IfOk r R
both_ok (Ok x) P Q R f p q = f x p q
both_ok (Err e) P Q R f p q = tt

rows_of-parts : (ds ms zs : List code_row.Row) → rows_of (ds ++ ms ++ zs) ≡ rows_of ds ++ rows_of ms ++ rows_of zs
rows_of-parts ds ms zs = map-append view_row (ds ++ ms) zs ∙ ap (λ rs. rs ++ rows_of zs) (map-append view_row ds ms)

once_in : (rs : List code_row.Row) (qs : List Row) → rows_of rs ≡ qs → AreOnce (row_names qs) → AreOnce (names rs)
once_in rs qs e h = subst (λ (ns : List (List ℕ)). AreOnce ns) (sym (names_view rs ∙ ap row_names e)) h

pub returns-in_err-outer-clause-none : goal.returns-in_err-outer-clause-none
returns-in_err-outer-clause-none c =
    let tops = placed c.args.tops.now in
    let k : (p : Bor (List ℕ)) (at : Span) → c.in_err-outer.field-0.0 ≡ Twice p at → HasNoTopLevel c.args.implements.now tops =
    λ p at e rows top. c.in_err-outer.ensures.twice p at e (once_in c.in_ok-rows.rows.items (declared tops) c.in_ok-rows.ensures (declared_once c.args.implements.now tops rows top)) in
    let p = err_from_is_err_and c.from_residual-in_err-outer.result c.from_residual-in_err-outer.ensures.1 in
    rw (p.1, p.2) k

pub returns-in-None-clause-unknown : goal.returns-in-None-clause-unknown
returns-in-None-clause-unknown c =
    λ e path ms h.
    let d : rows_of c.in_ok-outer.outer.rows.items ≡ declared (placed c.args.tops.now) = ap (λ v. rows_of v.items) c.in_ok-outer.ensures.rows ∙ c.in_ok-rows.ensures in
    c.in-None.ensures.none path ms (subst (λ (rs : List Row). DeclaresModule rs c.args.implements.now path ms) (sym d) h)

pub returns-in_err-inner-clause-none : goal.returns-in_err-inner-clause-none
returns-in_err-inner-clause-none c =
    let tops = placed c.args.tops.now in
    let d : rows_of c.in_ok-outer.outer.rows.items ≡ declared tops = ap (λ v. rows_of v.items) c.in_ok-outer.ensures.rows ∙ c.in_ok-rows.ensures in
    let ms : Members = view_members c.in-Some.module.1.now in
    let m : DeclaresModule (declared tops) c.args.implements.now c.in-Some.module.0.now ms =
    subst (λ (rs : List Row). DeclaresModule rs c.args.implements.now c.in-Some.module.0.now ms) d c.in-Some.ensures.some in
    let k : (p : Bor (List ℕ)) (at : Span) → c.in_err-inner.field-0.0 ≡ Twice p at → HasNoTopLevel c.args.implements.now tops =
    λ p at e rows top. c.in_err-inner.ensures.twice p at e
    (once_in c.in_ok-listed.listed.items (rows_of_members c.in-Some.module.0.now ms) c.in_ok-listed.ensures (members_once c.args.implements.now tops rows top c.in-Some.module.0.now ms m)) in
    let p = err_from_is_err_and c.from_residual-in_err-inner.result c.from_residual-in_err-inner.ensures.1 in
    rw (p.1, p.2) k

-- the rows of the three parts, as they are joined
parts_are :
    (all outer inner alone : List code_row.Row) (D M : List Row) → all ≡ outer ++ inner ++ alone → rows_of outer ≡ D → rows_of inner ≡ M
    → rows_of all ≡ D ++ M ++ rows_of alone
parts_are all outer inner alone D M e d m =
    ap rows_of e
    ∙ rows_of-parts outer inner alone
    ∙ ap (λ rs. rs ++ rows_of inner ++ rows_of alone) d
    ∙ ap (λ rs. D ++ rs ++ rows_of alone) m

-- the functions that declare themselves, among the rows that the code has
alone_are :
    (members : List Row) (ds es : List Definition) (rs qs : List Row) → Alone members ds rs → (M : List Row) → members ≡ M → ds ≡ es → rs ≡ qs
    → Alone M es qs
alone_are members ds es rs qs h M m d r =
    subst (λ (z : List Row). Alone z es qs) m (subst (λ (z : List Definition). Alone members z qs) d (subst (λ (z : List Row). Alone members ds z) r h))

pub returns-clause-top_level : goal.returns-clause-top_level
returns-clause-top_level c =
    let tops = placed c.args.tops.now in
    let path = c.in-Some.module.0.now in
    let ms : Members = view_members c.in-Some.module.1.now in
    let d : rows_of c.in_ok-outer.outer.rows.items ≡ declared tops = ap (λ v. rows_of v.items) c.in_ok-outer.ensures.rows ∙ c.in_ok-rows.ensures in
    let m : rows_of c.in_ok-inner.inner.rows.items ≡ rows_of_members path ms = ap (λ v. rows_of v.items) c.in_ok-inner.ensures.rows ∙ c.in_ok-listed.ensures in
    let is : DeclaresModule (declared tops) c.args.implements.now path ms =
    subst (λ (rs : List Row). DeclaresModule rs c.args.implements.now path ms) d c.in-Some.ensures.some in
    let f : definitions_of c.deref.result.now ≡ definitions tops = ap definitions_of c.deref.ensures.value ∙ c.in_ok-definitions.ensures in
    let a : Alone (rows_of_members path ms) (definitions tops) (rows_of c.in_ok-alone.alone.items) =
    alone_are (rows_of c.in_ok-inner.inner.rows.items) (definitions_of c.deref.result.now) (definitions tops) (rows_of c.in_ok-alone.alone.items) (rows_of c.in_ok-alone.alone.items)
    c.in_ok-alone.ensures (rows_of_members path ms) m f refl in
    let j : c.in_ok-all.all.items ≡ c.in_ok-outer.outer.rows.items ++ c.in_ok-inner.inner.rows.items ++ c.in_ok-alone.alone.items = search rules in
    let r = parts_are c.in_ok-all.all.items c.in_ok-outer.outer.rows.items c.in_ok-inner.inner.rows.items c.in_ok-alone.alone.items (declared tops) (rows_of_members path ms) j d m in
    record {
      path = path;
      members = ms;
      alone = rows_of c.in_ok-alone.alone.items;
      is_module = is;
      are_alone = a;
      rows_are = ap (λ v. rows_of v.items) c.in_ok-names.ensures.rows ∙ r;
      once = subst (λ (ns : List (List ℕ)). AreOnce ns) (ap (λ v. names v.items) (sym c.in_ok-names.ensures.rows) ∙ names_view c.in_ok-names.names.rows.items) c.in_ok-names.ensures.once;
    }

pub returns-clause-parts : goal.returns-clause-parts
returns-clause-parts c =
    let tops = placed c.args.tops.now in
    let path = c.in-Some.module.0.now in
    let ms : Members = view_members c.in-Some.module.1.now in
    let d : rows_of c.in_ok-outer.outer.rows.items ≡ declared tops = ap (λ v. rows_of v.items) c.in_ok-outer.ensures.rows ∙ c.in_ok-rows.ensures in
    let m : rows_of c.in_ok-inner.inner.rows.items ≡ rows_of_members path ms = ap (λ v. rows_of v.items) c.in_ok-inner.ensures.rows ∙ c.in_ok-listed.ensures in
    let is : DeclaresModule (declared tops) c.args.implements.now path ms =
    subst (λ (rs : List Row). DeclaresModule rs c.args.implements.now path ms) d c.in-Some.ensures.some in
    let f : definitions_of c.deref.result.now ≡ definitions tops = ap definitions_of c.deref.ensures.value ∙ c.in_ok-definitions.ensures in
    let a : Alone (rows_of_members path ms) (definitions tops) (rows_of c.in_ok-alone.alone.items) =
    alone_are (rows_of c.in_ok-inner.inner.rows.items) (definitions_of c.deref.result.now) (definitions tops) (rows_of c.in_ok-alone.alone.items) (rows_of c.in_ok-alone.alone.items)
    c.in_ok-alone.ensures (rows_of_members path ms) m f refl in
    let j : c.in_ok-all.all.items ≡ c.in_ok-outer.outer.rows.items ++ c.in_ok-inner.inner.rows.items ++ c.in_ok-alone.alone.items = search rules in
    let r = parts_are c.in_ok-all.all.items c.in_ok-outer.outer.rows.items c.in_ok-inner.inner.rows.items c.in_ok-alone.alone.items (declared tops) (rows_of_members path ms) j d m in
    record {
      path = path;
      members = ms;
      is_module = is;
      declared_are = d;
      members_are = m;
      definitions_are = c.in_ok-definitions.ensures;
      alone_are = a;
      names_are = ap (λ v. rows_of v.items) c.in_ok-names.ensures.rows ∙ r;
    }

pub returns-in_err-names-clause-none : goal.returns-in_err-names-clause-none
returns-in_err-names-clause-none c =
    let tops = placed c.args.tops.now in
    let path = c.in-Some.module.0.now in
    let ms : Members = view_members c.in-Some.module.1.now in
    let d : rows_of c.in_ok-outer.outer.rows.items ≡ declared tops = ap (λ v. rows_of v.items) c.in_ok-outer.ensures.rows ∙ c.in_ok-rows.ensures in
    let m : rows_of c.in_ok-inner.inner.rows.items ≡ rows_of_members path ms = ap (λ v. rows_of v.items) c.in_ok-inner.ensures.rows ∙ c.in_ok-listed.ensures in
    let is : DeclaresModule (declared tops) c.args.implements.now path ms =
    subst (λ (rs : List Row). DeclaresModule rs c.args.implements.now path ms) d c.in-Some.ensures.some in
    let f : definitions_of c.deref.result.now ≡ definitions tops = ap definitions_of c.deref.ensures.value ∙ c.in_ok-definitions.ensures in
    let a : Alone (rows_of_members path ms) (definitions tops) (rows_of c.in_ok-alone.alone.items) =
    alone_are (rows_of c.in_ok-inner.inner.rows.items) (definitions_of c.deref.result.now) (definitions tops) (rows_of c.in_ok-alone.alone.items) (rows_of c.in_ok-alone.alone.items)
    c.in_ok-alone.ensures (rows_of_members path ms) m f refl in
    let j : c.in_ok-all.all.items ≡ c.in_ok-outer.outer.rows.items ++ c.in_ok-inner.inner.rows.items ++ c.in_ok-alone.alone.items = search rules in
    let r = parts_are c.in_ok-all.all.items c.in_ok-outer.outer.rows.items c.in_ok-inner.inner.rows.items c.in_ok-alone.alone.items (declared tops) (rows_of_members path ms) j d m in
    let k : (p : Bor (List ℕ)) (at : Span) → c.in_err-names.field-0.0 ≡ Twice p at → HasNoTopLevel c.args.implements.now tops =
    λ p at e rows top. c.in_err-names.ensures.twice p at e
    (once_in c.in_ok-all.all.items (declared tops ++ rows_of_members path ms ++ rows_of c.in_ok-alone.alone.items) r
    (all_once c.args.implements.now tops rows top path ms (rows_of c.in_ok-alone.alone.items) is a)) in
    let p = err_from_is_err_and c.from_residual-in_err-names.result c.from_residual-in_err-names.ensures.1 in
    rw (p.1, p.2) k

pub returns-in_err-outer-clause-twice : goal.returns-in_err-outer-clause-twice
returns-in_err-outer-clause-twice c =
    let tops = placed c.args.tops.now in
    let k : (p : Bor (List ℕ)) (at : Span) → c.in_err-outer.field-0.0 ≡ Twice p at → DeclaresTwice c.args.implements.now tops =
    λ p at e. in_source (λ o. c.in_err-outer.ensures.twice p at e (once_in c.in_ok-rows.rows.items (declared tops) c.in_ok-rows.ensures o)) in
    let p = err_from_is_err_and c.from_residual-in_err-outer.result c.from_residual-in_err-outer.ensures.1 in
    rw (p.1, p.2) k

pub returns-in_err-inner-clause-twice : goal.returns-in_err-inner-clause-twice
returns-in_err-inner-clause-twice c =
    let tops = placed c.args.tops.now in
    let path = c.in-Some.module.0.now in
    let ms : Members = view_members c.in-Some.module.1.now in
    let d : rows_of c.in_ok-outer.outer.rows.items ≡ declared tops = ap (λ v. rows_of v.items) c.in_ok-outer.ensures.rows ∙ c.in_ok-rows.ensures in
    let m : DeclaresModule (declared tops) c.args.implements.now path ms =
    subst (λ (rs : List Row). DeclaresModule rs c.args.implements.now path ms) d c.in-Some.ensures.some in
    let k : (p : Bor (List ℕ)) (at : Span) → c.in_err-inner.field-0.0 ≡ Twice p at → DeclaresTwice c.args.implements.now tops =
    λ p at e. in_module path ms m (λ o. c.in_err-inner.ensures.twice p at e (once_in c.in_ok-listed.listed.items (rows_of_members path ms) c.in_ok-listed.ensures o)) in
    let p = err_from_is_err_and c.from_residual-in_err-inner.result c.from_residual-in_err-inner.ensures.1 in
    rw (p.1, p.2) k

pub returns-in_err-names-clause-twice : goal.returns-in_err-names-clause-twice
returns-in_err-names-clause-twice c =
    let tops = placed c.args.tops.now in
    let path = c.in-Some.module.0.now in
    let ms : Members = view_members c.in-Some.module.1.now in
    let d : rows_of c.in_ok-outer.outer.rows.items ≡ declared tops = ap (λ v. rows_of v.items) c.in_ok-outer.ensures.rows ∙ c.in_ok-rows.ensures in
    let m : rows_of c.in_ok-inner.inner.rows.items ≡ rows_of_members path ms = ap (λ v. rows_of v.items) c.in_ok-inner.ensures.rows ∙ c.in_ok-listed.ensures in
    let is : DeclaresModule (declared tops) c.args.implements.now path ms =
    subst (λ (rs : List Row). DeclaresModule rs c.args.implements.now path ms) d c.in-Some.ensures.some in
    let f : definitions_of c.deref.result.now ≡ definitions tops = ap definitions_of c.deref.ensures.value ∙ c.in_ok-definitions.ensures in
    let a : Alone (rows_of_members path ms) (definitions tops) (rows_of c.in_ok-alone.alone.items) =
    alone_are (rows_of c.in_ok-inner.inner.rows.items) (definitions_of c.deref.result.now) (definitions tops) (rows_of c.in_ok-alone.alone.items) (rows_of c.in_ok-alone.alone.items)
    c.in_ok-alone.ensures (rows_of_members path ms) m f refl in
    let j : c.in_ok-all.all.items ≡ c.in_ok-outer.outer.rows.items ++ c.in_ok-inner.inner.rows.items ++ c.in_ok-alone.alone.items = search rules in
    let r = parts_are c.in_ok-all.all.items c.in_ok-outer.outer.rows.items c.in_ok-inner.inner.rows.items c.in_ok-alone.alone.items (declared tops) (rows_of_members path ms) j d m in
    let k : (p : Bor (List ℕ)) (at : Span) → c.in_err-names.field-0.0 ≡ Twice p at → DeclaresTwice c.args.implements.now tops =
    λ p at e. at_top path ms (rows_of c.in_ok-alone.alone.items) is a
    (λ o. c.in_err-names.ensures.twice p at e (once_in c.in_ok-all.all.items (declared tops ++ rows_of_members path ms ++ rows_of c.in_ok-alone.alone.items) r o)) in
    let p = err_from_is_err_and c.from_residual-in_err-names.result c.from_residual-in_err-names.ensures.1 in
    rw (p.1, p.2) k
