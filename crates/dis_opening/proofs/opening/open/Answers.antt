use Rattle.std.proofs.Common.{◌≡◌, ℕ, sym, ap, ◌∙◌}
use Rattle.ref_heap.specs.Store.{one}
use Rattle.dis_meaning.specs.Words.{Found}
use Rattle.dis_memory.specs.Naming.{names}
use Rattle.dis_memory.specs.Operands.{type_of}
use Rattle.dis_counts.specs.Opening.{Loading, opens, with_items}
use Rattle.dis_places.specs.View.{view_process, view_world}
use Rattle.dis_places.specs.Words.{view_words}
use Rattle.dis_opening.specs.Loading.{view_loading}
use Rattle.dis_opening.proofs.Beginning.{entered_given, opened_so, opens_so, typed_bare, typed_names}
use Rattle.dis_opening.proofs.Outside.{keeps_items}
use Rattle.dis_opening.proofs.opening.open.Goals as goal

pub begin-requires : goal.begin-requires
begin-requires c = record { bare = typed_bare (type_of c.args.code.now.object 0) c.in_ok-words.words.items (c.in_ok-words.ensures {u = tt}).gives }

pub returns-clause-opened : goal.returns-clause-opened
returns-clause-opened c =
    let o = c.args.code.now.object in
    let ws = view_words c.in_ok-words.words.items in
    let fs = view_words c.in_ok-frame.frame.items in
    let l = view_loading c.put_items.new.loading in
    let p = view_process c.first_process-process.result in
    let named : (n : ℕ) → names p n ≡ one 0 n =
    (λ n. ap (λ q. names q n) c.first_process-process.ensures
    ∙ typed_names o (type_of o o.entry_type) c.in_ok-frame.frame.items (c.in_ok-frame.ensures {u = tt}).gives n) in
    opened_so o ws fs l (c.in_ok-words.ensures {u = tt}).gives (c.in_ok-frame.ensures {u = tt}).gives
    (ap (λ k. with_items o k o.items) (sym (c.in_ok-loading.ensures {u = tt}).begun)
    ∙ ap (with_items o (view_loading c.in_ok-loading.loading)) (sym c.as_slice.ensures)
    ∙ (c.in_ok-put_items.ensures {u = tt}).gives)
    ∙ ap (λ p. Found (opens l.world p)) (sym c.first_process-process.ensures)
    ∙ ap Found (opens_so c.put_items.new.loading.memory c.settle.result p c.settle.ensures named)

pub returns-clause-exact : goal.returns-clause-exact
returns-clause-exact c = λ n.
    let o = c.args.code.now.object in
    c.settle.ensures.held n
    ∙ sym (ap (λ q. names q n) c.first_process-process.ensures
    ∙ typed_names o (type_of o o.entry_type) c.in_ok-frame.frame.items (c.in_ok-frame.ensures {u = tt}).gives n)

pub returns-clause-given : goal.returns-clause-given
returns-clause-given c =
    let o = c.args.code.now.object in
    let ws = view_words c.in_ok-words.words.items in
    let begins = (c.in_ok-loading.ensures {u = tt}).begun in
    entered_given (view_world c.settle.result) o (view_words c.in_ok-frame.frame.items) (view_process c.first_process-process.result) c.first_process-process.ensures
    (c.settle.ensures.outer
    ∙ keeps_items o c.as_slice.result.now (view_loading c.in_ok-loading.loading) (view_loading c.put_items.new.loading) (c.in_ok-put_items.ensures {u = tt}).gives
    ∙ ap (λ (l : Loading). l.world.outside) begins)
