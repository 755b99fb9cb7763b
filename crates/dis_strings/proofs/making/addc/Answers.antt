use Rattle.std.proofs.Common.{List, ℕ, ap, ◌∙◌}
use Rattle.limbo_values.specs.Texts.{joined}
use Rattle.dis_meaning.specs.Places.{Spot}
use Rattle.dis_meaning.specs.Words.{Access, Found, ◌>>=◌}
use Rattle.dis_memory.specs.Blocks as blocks
use Rattle.dis_memory.specs.Kinds.{text_at}
use Rattle.dis_memory.specs.Process.{Does}
use Rattle.dis_memory.specs.Raising.{unless_raised}
use Rattle.dis_memory.specs.Results.{gives_block, gives_block_at}
use Rattle.dis_memory.specs.Strings as strings
use Rattle.dis_places.specs.View.{view_process, view_spot, view_world}
use Rattle.dis_stores.proofs.Blocks.{halts_on}
use Rattle.dis_results.proofs.Onward.{goes_same, halts_same}
use Rattle.dis_strings.specs.Telling.{as_block, left_reference}
use Rattle.dis_strings.proofs.Changing.{gives_found, gives_none, left_text_is}
use Rattle.dis_strings.proofs.making.addc.Goals as goal

pub returns-in-Err-left_reference-clause-goes : goal.returns-in-Err-left_reference-clause-goes
returns-in-Err-left_reference-clause-goes c =
    let x = view_world c.args.memory.now in
    let p = view_process c.args.process.now in
    let i = c.args.inst in
    let h = c.in-Err-left_reference.halt in
    let back : List ℕ = c.in-Ok.text.now in
    let then : List ℕ → Access Does = λ m. gives_block x p i.dst (as_block (unless_raised (joined m back))) in
    λ o.
    halts_same h (left_reference x p i.middle i.dst >>= text_at x >>= then) _
    (ap (λ a. a >>= λ s. strings.left_text o x p i i.middle >>= λ m. gives_block x p i.dst (as_block (unless_raised (joined m s)))) c.in-Ok.ensures
    ∙ ap (λ a. a >>= then) (left_text_is o x p i i.middle))
    (halts_on h (left_reference x p i.middle i.dst >>= text_at x) then (halts_on h (left_reference x p i.middle i.dst) (text_at x) c.in-Err-left_reference.ensures))

pub returns-in-Ok-joining-clause-goes : goal.returns-in-Ok-joining-clause-goes
returns-in-Ok-joining-clause-goes c =
    let m = c.args.memory.now in
    let x = view_world m in
    let p = view_process c.args.process.now in
    let i = c.args.inst in
    let d = view_spot c.in-Ok-spot_of.spot in
    let back : List ℕ = c.in-Ok.text.now in
    let front : List ℕ = c.in-Ok-text_of.text.now in
    let then : List ℕ → Access Does = λ m. gives_block x p i.dst (as_block (unless_raised (joined m back))) in
    let there : Spot → Access Does = λ d. gives_block_at x p d (as_block (unless_raised (joined front back))) in
    let made = c.in-Ok-joining.ensures in
    λ o.
    goes_same m c.give_change.new.memory c.args.process.now c.give_change.new.process c.give_change.result
    (gives_block_at x p d (Found (blocks.Text made.0))) _
    (ap (λ a. a >>= λ s. strings.left_text o x p i i.middle >>= λ m. gives_block x p i.dst (as_block (unless_raised (joined m s)))) c.in-Ok.ensures
    ∙ ap (λ a. a >>= then) (left_text_is o x p i i.middle)
    ∙ ap (λ a. a >>= text_at x >>= then) c.in-Ok-left_reference.ensures
    ∙ ap (λ a. a >>= then) c.in-Ok-text_of.ensures
    ∙ ap (λ a. a >>= there) c.in-Ok-spot_of.ensures
    ∙ gives_found x p d (unless_raised (joined front back)) made.0 made.1)
    (c.give_change.ensures.goes made.0 made.2)

pub returns-in-Err-joining-clause-goes : goal.returns-in-Err-joining-clause-goes
returns-in-Err-joining-clause-goes c =
    let x = view_world c.args.memory.now in
    let p = view_process c.args.process.now in
    let i = c.args.inst in
    let h = c.in-Err-joining.halt in
    let d = view_spot c.in-Ok-spot_of.spot in
    let back : List ℕ = c.in-Ok.text.now in
    let front : List ℕ = c.in-Ok-text_of.text.now in
    let then : List ℕ → Access Does = λ m. gives_block x p i.dst (as_block (unless_raised (joined m back))) in
    let there : Spot → Access Does = λ d. gives_block_at x p d (as_block (unless_raised (joined front back))) in
    λ o.
    halts_same h (gives_block_at x p d (as_block (unless_raised (joined front back)))) _
    (ap (λ a. a >>= λ s. strings.left_text o x p i i.middle >>= λ m. gives_block x p i.dst (as_block (unless_raised (joined m s)))) c.in-Ok.ensures
    ∙ ap (λ a. a >>= then) (left_text_is o x p i i.middle)
    ∙ ap (λ a. a >>= text_at x >>= then) c.in-Ok-left_reference.ensures
    ∙ ap (λ a. a >>= then) c.in-Ok-text_of.ensures
    ∙ ap (λ a. a >>= there) c.in-Ok-spot_of.ensures)
    (gives_none x p d h (unless_raised (joined front back)) c.in-Err-joining.ensures)
