use Rattle.std.proofs.Common.{sym, ap, ◌∙◌, subst}
use Rattle.std.specs.Prelude.{IfOk}
use Rattle.ref_heap.specs.declared.word.Ref.{Ref}
use Rattle.ref_heap.specs.declared.kind.Kind.TheVariants.{Text}
use Rattle.ref_heap.specs.Words.{Content, compact, cells, naming}
use Rattle.ref_heap.specs.Store.{AreHeld, fresh}
use Rattle.dis_values.specs.Making.{Makes}
use Rattle.dis_values.proofs.Made.{makes, bare_held, plain_names}
use Rattle.dis_values.proofs.texts.make_text.Goals as goal

pub add-requires-clause-held : goal.add-requires-clause-held
add-requires-clause-held c = subst (λ (w : Content). AreHeld c.args.heap.now (naming (cells w))) (sym c.compact.ensures) (bare_held c.args.heap.now (compact c.args.numbers.items) (plain_names c.args.numbers.items))

pub returns-clause-ok : goal.returns-clause-ok
returns-clause-ok c =
    subst (λ (w : Content). IfOk c.add.result (λ (r : Ref). Makes c.args.heap.now c.add.new.self r.serial (fresh Text w))) c.compact.ensures
    (makes c.add.result c.args.heap.now c.add.new.self Text c.compact.result (λ n. ap (λ (w : Content). naming (cells w) n) c.compact.ensures ∙ plain_names c.args.numbers.items n)
    c.add.ensures.serial c.add.ensures.ok c.add.ensures.outside)
