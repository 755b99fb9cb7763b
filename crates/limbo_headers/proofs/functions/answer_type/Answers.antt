use Rattle.std.proofs.Common.{refl, subst}
use Rattle.std.proofs.lemmas.Result.{IfOk-weaker, IfErr-weaker}
use Rattle.limbo_tree.specs.declared.types.TypeTree as code_type
use Rattle.limbo_tree.specs.View.{view_type}
use Rattle.limbo_types.specs.View.{view_ty}
use Rattle.limbo_types.proofs.View.{view_ty-Nothing}
use Rattle.limbo_type_names.specs.Writes.{Fails}
use Rattle.limbo_type_names.specs.Working.{entries_in}
use Rattle.limbo_headers.specs.Headers.{no_answer, an_answer}
use Rattle.limbo_headers.specs.Refusals.{IsAnswerType}
use Rattle.limbo_headers.proofs.Telling.{one_fails}
use Rattle.limbo_headers.proofs.functions.answer_type.Goals as goal

pub returns-in-None-clause-means : goal.returns-in-None-clause-means
returns-in-None-clause-means c = rw c.in-None.is (rw view_ty-Nothing no_answer)

pub returns-in-Some-clause-means : goal.returns-in-Some-clause-means
returns-in-Some-clause-means c =
    IfOk-weaker c.type_of.result _ _ (λ t h. rw c.in-Some.is (an_answer (view_type c.in-Some.of.value) (view_ty t) (rw c.deref.ensures at h))) c.type_of.ensures.means

pub returns-in-Some-clause-fails : goal.returns-in-Some-clause-fails
returns-in-Some-clause-fails c =
    let n = c.args.names.now.naming.now in
    IfErr-weaker c.type_of.result _ _ (λ e h.
    one_fails (entries_in n) n.implemented c.args.scope (IsAnswerType c.args.answer.now) c.in-Some.of.value (c.in-Some.of, c.in-Some.is, refl) e
    (subst (λ (z : code_type.TypeTree). Fails (entries_in n) n.implemented c.args.scope z e) c.deref.ensures h)) c.type_of.ensures.fails
