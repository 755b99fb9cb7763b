-- References that are held and let go again.
use Rattle.std.proofs.Common.{◌≡◌, ℕ, ◌+◌, ◌≤◌, ◌<◌, List, [], ◌∷◌, ◌++◌, map, take, length, get_or, zero, suc, cond, Option, Some, None, IfSome, refl, sym, ap, ◌∙◌, arith, eq-eqb}
use Rattle.std.specs.Prelude.{slice_get}
use Rattle.std.specs.Option.{option_map}
use Rattle.std.proofs.lemmas.List.{take_more}
use Rattle.heap_model.specs.Heap as heap_list
use Rattle.ref_heap.specs.declared.word.Word as code_word
use Rattle.ref_heap.specs.declared.word.Word.TheVariants as word
use Rattle.ref_heap.specs.declared.word.Ref.{Ref}
use Rattle.ref_heap.specs.Words.{Cell, plain, refer, in_block, in_frame, cell_of, name_of, naming}
use Rattle.ref_heap.specs.Store.{Store, Block, IsHeap, IsLive, at, outside}
use Rattle.ref_heap.specs.Drops.{Drops}
use Rattle.ref_heap.proofs.Naming.{naming_cons}
use Rattle.heap_model.specs.Heap.{stays}
use Rattle.heap_cuts.specs.Shapes.{naming_of, shape_of, shapes}
use Rattle.heap_cuts.proofs.Cuts.{uncut_stays, cut_stays}
use Rattle.heap_cuts.proofs.Listed.{at_shapes}
use Rattle.heap_cuts.proofs.Told.{stays_same}
use Rattle.dis_stores.specs.Storing.{named, SameShapes}
use Rattle.dis_copies.specs.Spans.{all_named, AreLive}

-- What was held is let go: the blocks are the same.
pub back_again : (h0 h1 h2 : Store) (given : ℕ → ℕ) → IsHeap h0 → IsHeap h1 → IsHeap h2 → SameShapes h0 h1 →
    ((n : ℕ) → outside h1 n ≡ outside h0 n + given n) → Drops h1 h2 given → h2.made ≡ h1.made → ((n : ℕ) → outside h2 n + given n ≡ outside h1 n) →
    SameShapes h0 h2
back_again h0 h1 h2 given ok0 ok1 ok2 same more drops made out =
    record { shapes = is; each = λ n. sym (at_shapes h2 ok2 n) ∙ ap (λ s. heap_list.at s n) is ∙ at_shapes h0 ok0 n }
  where
    back : (n : ℕ) → outside h2 n ≡ outside h0 n
    back n = let a = out n in let b = more n in omega (arith, a, b)

    is : shapes h2 ≡ shapes h0
    is =
        cut_stays h1 h2 given (record { heap = ok1; held = λ n. let a = out n in omega (arith, a); drops = drops; made = made })
        ∙ ap (stays naming_of (outside h2)) same.shapes
        ∙ stays_same naming_of (outside h2) (outside h0) (shapes h0) back
        ∙ sym (uncut_stays h0 ok0)

pub same_twice : (a b c : Store) → SameShapes a b → SameShapes b c → SameShapes a c
same_twice a b c s t = record { shapes = t.shapes ∙ s.shapes; each = λ n. t.each n ∙ s.each n }

-- A block that is there is there still.
pub live_still : (h h1 : Store) (n : ℕ) → SameShapes h h1 → IsLive h n → IsLive h1 n
live_still h h1 n same l = go (at h1 n) refl (same.each n ∙ ap (option_map shape_of) l.live)
  where
    go : (o : Option Block) → at h1 n ≡ o → option_map shape_of (at h1 n) ≡ Some (shape_of l.block) → IsLive h1 n
    go None is e = let a : None ≡ Some (shape_of l.block) = sym (ap (option_map shape_of) is) ∙ e in absurd cc
    go (Some b) is e = record { block = b; live = is }

-- The reference of a word names what the word names.
as_named : (c : Cell) (n : ℕ) → naming (refer (name_of c) ∷ []) n ≡ naming (c ∷ []) n
as_named (plain v) n = refl
as_named (refer r) n = refl
as_named (in_block s v) n = refl
as_named (in_frame s v) n = refl

pub held_as : (w : code_word.Word) (r : Option Ref) (n : ℕ) → option_map (λ (r : Ref). r.serial) r ≡ name_of (cell_of w) → named (word.Refer r) n ≡ all_named (w ∷ []) n
held_as w r n e = ap (λ r. naming (refer r ∷ []) n) e ∙ as_named (cell_of w) n

-- One word more.
pub named_both : (ws vs : List code_word.Word) (n : ℕ) → all_named (ws ++ vs) n ≡ all_named ws n + all_named vs n
named_both [] vs n = omega arith
named_both (w ∷ ws) vs n =
    let r = named_both ws vs n in let a = naming_cons (cell_of w) (map cell_of (ws ++ vs)) n in let b = naming_cons (cell_of w) (map cell_of ws) n in
    omega (arith, r, a, b)

pub named_more : (ws : List code_word.Word) (k : ℕ) (w : code_word.Word) (n : ℕ) → k < length ws → w ≡ get_or ws k w →
    all_named (take (k + 1) ws) n ≡ all_named (take k ws) n + all_named (w ∷ []) n
named_more ws k w n lt is =
    ap (λ vs. all_named vs n) (take_more ws k w lt) ∙ ap (λ v. all_named (take k ws ++ v ∷ []) n) (sym is) ∙ named_both (take k ws) (w ∷ []) n

named_has : (ws : List code_word.Word) (k : ℕ) (w : code_word.Word) (n : ℕ) → slice_get ws k ≡ Some w → all_named (w ∷ []) n ≤ all_named ws n
named_has [] k w n e = absurd cc
named_has (v ∷ ws) zero w n e =
    let same : v ≡ w = cc in let a = naming_cons (cell_of v) (map cell_of ws) n in let b = naming_cons (cell_of v) [] n in let c = ap (λ v. all_named (v ∷ []) n) same in
    omega (arith, a, b, c)
named_has (v ∷ ws) (suc k) w n e = let r = named_has ws k w n e in let a = naming_cons (cell_of v) (map cell_of ws) n in omega (arith, r, a)

-- A block that one of the words refers to is there.
pub reference_live : (h : Store) (ws : List code_word.Word) (k : ℕ) (w : code_word.Word) (r : Option Ref) → AreLive h ws → slice_get ws k ≡ Some w →
    option_map (λ (r : Ref). r.serial) r ≡ name_of (cell_of w) → IfSome r (λ r. IsLive h r.serial)
reference_live h ws k w None live there e = tt
reference_live h ws k w (Some r) live there e =
    let one : named (word.Refer (Some r)) r.serial ≡ 1 = ap (λ b. 0 + cond b 1 0) (eq-eqb r.serial r.serial refl) in
    let a = held_as w (Some r) r.serial e in let b = named_has ws k w r.serial there in
    live r.serial (omega (arith, one, a, b))

pub live_again : (h h1 : Store) (r : Option Ref) → SameShapes h h1 → IfSome r (λ r. IsLive h r.serial) → IfSome r (λ r. IsLive h1 r.serial)
live_again h h1 None same l = tt
live_again h h1 (Some r) same l = live_still h h1 r.serial same l
