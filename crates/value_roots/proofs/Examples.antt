-- A process worked out by hand: the only word of its one frame that refers to anything refers to a box, a carrier, and this to a record;
-- and a block that is made and not yet known to stand for anything.
use Rattle.std.proofs.Common.{◌≡◌, ℕ, zero, suc, ◌<◌, pos, true, [], ◌∷◌, Option, Some, None, refl, sym, subst, inl, inr, arith, ◌∙◌}
use Rattle.heap_model.specs.Kept.{IsClosed}
use Rattle.heap_model.specs.Heap.{Heap, at, there, in_one, graph}
use Rattle.heap_model.specs.Facts.{Fact, Named, Carrier, itself, refers}
use Rattle.heap_model.specs.Alike.{Holds}
use Rattle.heap_model.proofs.Alike.{covers_named, covers_not_inner}
use Rattle.dis_meaning.specs.Words.{Plain, Refer}
use Rattle.dis_meaning.specs.Counts as counts
use Rattle.dis_meaning.specs.Process.{Process}
use Rattle.dis_memory.specs.Blocks.{Block, Record, Instance, words_in}
use Rattle.dis_memory.specs.Naming as machine
use Rattle.dis_memory.specs.Naming.{inside}
use Rattle.value_words.specs.Forms.{Form, Adts, Instances}
use Rattle.value_words.specs.Facts.{Facts}
use Rattle.value_roots.specs.Accounts.{Accounted, a_number, to_nothing, to_value, to_inner, AllAccounted, none, more}
use Rattle.value_roots.specs.Accounts.{LeadTo, it, through, process_words}
use Rattle.value_roots.proofs.Words.{either, refers_same}
use Rattle.value_roots.proofs.Owned.{own_all}
use Rattle.value_roots.proofs.Process.{process_holds}

-- ---- block 0 is the module's instance and stands for value 0; block 1 is the box; block 2 is the record and
-- stands for value 1; block 3 is new, and process 4 made it

abbrev box : Block
box = Record (Refer (Some 2) ∷ [])

abbrev blank : Block
blank = Record (Refer None ∷ [])

abbrev heap : Heap Block
heap = Some (Instance 0 []) ∷ Some box ∷ Some (Record (Plain (pos 7) ∷ [])) ∷ Some blank ∷ []

abbrev known_of : ℕ → Option (Fact Block)
known_of zero = Some (Named 0)
known_of (suc zero) = Some (Carrier box)
known_of (suc (suc zero)) = Some (Named 1)
known_of (suc (suc (suc n))) = None

abbrev formed_of : ℕ → Option Form
formed_of zero = Some Instances
formed_of (suc (suc zero)) = Some (Adts 0)
formed_of n = None

abbrev maker_of : ℕ → Option ℕ
maker_of (suc (suc (suc zero))) = Some 4
maker_of n = None

one_block : (m n n' : ℕ) → known_of n ≡ Some (Named m) → known_of n' ≡ Some (Named m) → n ≡ n'
one_block m zero zero e f = refl
one_block m (suc (suc zero)) (suc (suc zero)) e f = refl
one_block m zero (suc (suc zero)) e f = absurd (let z : 0 ≡ 1 = (let u : 0 ≡ m = cc in let v : 1 ≡ m = cc in u ∙ sym v) in omega arith)
one_block m (suc (suc zero)) zero e f = absurd (let z : 0 ≡ 1 = (let u : 0 ≡ m = cc in let v : 1 ≡ m = cc in u ∙ sym v) in omega arith)
one_block m (suc zero) n' e f = absurd cc
one_block m (suc (suc (suc n))) n' e f = absurd cc
one_block m zero (suc zero) e f = absurd cc
one_block m zero (suc (suc (suc n))) e f = absurd cc
one_block m (suc (suc zero)) (suc zero) e f = absurd cc
one_block m (suc (suc zero)) (suc (suc (suc n))) e f = absurd cc

abbrev known : Facts
known = record { fact = known_of; maker = maker_of; form = formed_of; once = one_block }

-- the process, and what it names in the source: its instance, and the record
abbrev process : Process
process = record {
  number = 4;
  frame = record { serial = 9; instance = 0; pc = 0; words = Plain (pos 3) ∷ Refer (Some 1) ∷ Refer None ∷ [] };
  below = [];
  made = [];
  printing = None;
}

abbrev names : ℕ → ℕ
names zero = 1
names (suc zero) = 1
names (suc (suc n)) = 0

-- ---- it holds both

abbrev accounted : AllAccounted known 4 heap names (process_words process)
accounted =
    more _ _ (to_value 0 (refers 0 (omega arith) (itself refl)))
    (more _ _ (a_number (pos 3))
    (more _ _ (to_inner 1 box tt refl (λ f. absurd f) (more _ _ (to_value 2 (refers 1 (omega arith) (itself refl))) none))
    (more _ _ to_nothing none)))

leads : (m : ℕ) → 0 < names m → LeadTo known heap m (process_words process)
leads zero p = it _ 0 (inl refl) (itself refl)
leads (suc zero) p = through _ 1 box (inr (inr (inl refl))) tt refl (it _ 2 (inl refl) (itself refl))
leads (suc (suc m)) p = absurd (omega (arith, p))

live : (q : ℕ) → 0 < machine.names process q → there (at heap q) ≡ true
live q u = elim (either (counts.refers q (Refer (Some 0))) (counts.refers q (Refer (Some 1))) (omega (arith, u))) [
  | inl v ↦ subst (λ n. there (at heap n) ≡ true) (refers_same q 0 v) refl
  | inr v ↦ subst (λ n. there (at heap n) ≡ true) (refers_same q 1 v) refl
]

-- No block refers to anything but the box, which refers to the record.
closed : IsClosed (graph inside heap)
closed = record { closed = leads_on }
  where
    leads_on : (a b : ℕ) → there (at heap a) ≡ true → 0 < in_one inside (at heap a) b → there (at heap b) ≡ true
    leads_on zero b e u = absurd (omega (arith, u))
    leads_on (suc zero) b e u = subst (λ n. there (at heap n) ≡ true) (refers_same b 2 (omega (arith, u))) refl
    leads_on (suc (suc zero)) b e u = absurd (omega (arith, u))
    leads_on (suc (suc (suc zero))) b e u = absurd (omega (arith, u))
    leads_on (suc (suc (suc (suc a)))) b e u = absurd (omega (arith, u))

holds : Holds known (λ j. j ≡ 4) (graph inside heap) names (machine.names process)
holds = process_holds known 4 heap names process accounted leads closed live

-- No word of the process refers to the record. It is held by way of the box.
not_by_itself : machine.names process 2 ≡ 0
not_by_itself = refl

by_the_box : own_all known 4 heap names (process_words process) accounted 2 ≡ 1
by_the_box = refl

-- ---- where the record isn't named, its box isn't accounted for

abbrev instance_alone : ℕ → ℕ
instance_alone zero = 1
instance_alone (suc n) = 0

record_not : Accounted known 4 heap instance_alone (Refer (Some 2)) → ⊥
record_not (to_value _ c) = let n : 0 < instance_alone 1 = covers_named known (λ m. 0 < instance_alone m) 1 2 refl c in omega arith
record_not (to_inner _ block inner e mine all) = inner

record_words_not : AllAccounted known 4 heap instance_alone (words_in box) → ⊥
record_words_not (more _ _ a each) = record_not a

box_not : Accounted known 4 heap instance_alone (Refer (Some 1)) → ⊥
box_not (to_value _ c) = covers_not_inner known (λ m. 0 < instance_alone m) 1 tt c
box_not (to_inner _ block inner e mine all) =
    let same : block ≡ box = let z : Some box ≡ Some block = e in cc in
    record_words_not (subst (λ (b : Block). AllAccounted known 4 heap instance_alone (words_in b)) same all)

-- ---- a new block is accounted for where its maker refers to it, and nowhere else

new_block : Accounted known 4 heap names (Refer (Some 3))
new_block = to_inner 3 blank tt refl (λ f. refl) (more _ _ to_nothing none)

of_another : Accounted known 5 heap names (Refer (Some 3)) → ⊥
of_another (to_value _ c) = covers_not_inner known (λ m. 0 < names m) 3 tt c
of_another (to_inner _ block inner e mine all) =
    let z : ◌≡◌ {A = Option ℕ} (Some 4) (Some 5) = mine tt in
    let y : ◌≡◌ {A = ℕ} 4 5 = cc in
    absurd (omega (arith, y))
