-- Arrays whose elements hold references: made, cut, and while other blocks are made.
use Rattle.std.proofs.Common.{◌≡◌, ℕ, zero, suc, ◌+◌, ◌-◌, ◌*◌, ◌/◌, ◌%◌, ◌^◌, ◌<◌, ◌≤◌, Bool, true, false, List, [], ◌∷◌, length, Some}
use Rattle.std.proofs.Common.{None}
use Rattle.std.proofs.Common.{refl, sym, ap, subst, ◌∙◌, arith}
use Rattle.std.specs.Prelude.{slice_get, replicate, ◌==◌, ◌&&◌, if◌then◌else◌}
use Rattle.std.proofs.lemmas.Nat.{mod-mul-add}
use Rattle.ref_heap.specs.declared.kind.Kind.TheVariants.{Array, Slice}
use Rattle.ref_heap.specs.Words.{Cell, wide, compact, plain, refer, is_reference}
use Rattle.ref_heap.specs.Store.{Store, Block, IsHeap, at, with_block, with_new, fresh, one_more}
use Rattle.ref_heap.specs.Drops.{IsPart}
use Rattle.dis_values.specs.Making.{Makes}
use Rattle.dis_values.specs.Arrays.{Part, part_of, part_in, any_marked, is_marked, zeroed, zeroed_at, zeroed_word, zeroed_words}
use Rattle.dis_values.specs.Arrays.{words_for, Slices}
use Rattle.dis_values.specs.References.{IsMarked}
use Rattle.dis_values.proofs.Made.{new_there, block_there, other_new, not_next}
use Rattle.dis_values.proofs.Stays.{part_stays, again}

zeroed_length : (size : ℕ) (marks : List Bool) (j n : ℕ) → length (zeroed_words size marks j n) ≡ n
zeroed_length size marks j zero = refl
zeroed_length size marks j (suc n) = omega (arith, zeroed_length size marks (suc j) n)

zeroed_get : (size : ℕ) (marks : List Bool) (j n q : ℕ) (c : Cell) → slice_get (zeroed_words size marks j n) q ≡ Some c
    → c ≡ zeroed_word size marks (j + q)
zeroed_get size marks j zero q c e = absurd cc
zeroed_get size marks j (suc n) zero c e = (let f : zeroed_word size marks j ≡ c = cc in let g : j ≡ j + 0 = omega arith in sym f
    ∙ ap (zeroed_word size marks) g)
zeroed_get size marks j (suc n) (suc q) c e = zeroed_get size marks (suc j) n q c e
    ∙ (let g : suc j + q ≡ j + suc q = omega arith in ap (zeroed_word size marks) g)

reference_of : (b : Bool) → is_reference (if b then refer None else plain 0) ≡ b
reference_of true = refl
reference_of false = refl

zeroed_marked : (size : ℕ) (marks : List Bool) (i r : ℕ) → size % 4 ≡ 0 → r < size / 4
    → is_reference (zeroed_word size marks (i * (size / 4) + r)) ≡ is_marked marks r
zeroed_marked size marks i r even less =
    let k = size / 4 in
    let whole : size ≡ 4 * k = omega arith in
    let split : 4 * (i * k + r) ≡ i * (4 * k) + 4 * r = omega arith in
    let rest : 4 * (i * k + r) % size ≡ 4 * r =
    ap (λ (x : ℕ). 4 * (i * k + r) % x) whole ∙ ap (λ (x : ℕ). x % (4 * k)) split ∙ mod-mul-add i (4 * k) (4 * r) (omega arith) in
    let place : 4 * r / 4 ≡ r = omega arith in
    let begins : 4 * r % 4 ≡ 0 = omega arith in
    ap (λ (x : ℕ). is_reference (zeroed_at size marks x)) rest
    ∙ ap (λ (x : ℕ). is_reference (if x == 0 && is_marked marks (4 * r / 4) then refer None else plain 0)) begins
    ∙ ap (λ (x : ℕ). is_reference (if is_marked marks x then refer None else plain 0)) place
    ∙ reference_of (is_marked marks r)

pub made_marked : (h new : Store) (made size len : ℕ) (marks : List Bool) → any_marked marks ≡ true → size % 4 ≡ 0
    → size * len ≤ 268435456 → len < 2 ^ 32
    → Makes h new made (fresh (Array size len) (zeroed size marks len)) → IsMarked new made size marks
made_marked h new made size len marks some even bytes small m =
    let b = fresh (Array size len) (zeroed size marks len) in
    let ws : List Cell = zeroed_words size marks 0 (words_for size len) in
    let here : at new made ≡ Some b = ap (λ (v : Store). at v made) m.makes ∙ ap (at (with_new h b)) m.serial ∙ new_there h b in
    let same : part_of new made ≡ record { array = made; from = 0; length = len } = ap (part_in made) here in
    let live : at new (part_of new made).array ≡ Some b = ap (λ (q : Part). at new q.array) same ∙ here in
    record {
      all = len;
      whole = record { block = b; live = live; kind = refl; bytes = bytes; small = small };
      within = subst (λ (q : Part). q.from + q.length ≤ len) (sym same) (omega arith);
      even = even;
      words = ws;
      content = ap (λ (v : Bool). if v then wide ws else compact (replicate (words_for size len) 0)) some;
      enough = (let e : length ws ≡ words_for size len = zeroed_length size marks 0 (words_for size len) in omega arith);
      marked = λ i r c less e.
          ap is_reference (zeroed_get size marks 0 (words_for size len) (i * (size / 4) + r) c e
          ∙ (let g : 0 + (i * (size / 4) + r) ≡ i * (size / 4) + r = omega arith in ap (zeroed_word size marks) g))
          ∙ zeroed_marked size marks i r even less;
    }

pub sliced_marked : (h new : Store) (s from to made size : ℕ) (marks : List Bool) → IsHeap h → IsMarked h s size marks → from ≤ to
    → to ≤ (part_of h s).length
    → Slices h new (part_of h s) from to made → IsMarked new made size marks
sliced_marked h new s from to made size marks ok a rising within sl =
    let p = part_of h s in
    let b = sl.block in
    let h1 = with_block h p.array (one_more b) in
    let c = fresh (Slice (p.from + from) (to - from)) (wide (refer (Some p.array) ∷ [])) in
    let here : at new made ≡ Some c = ap (λ (v : Store). at v made) sl.makes ∙ ap (at (with_new h1 c)) sl.serial ∙ new_there h1 c in
    let base : at new p.array ≡ Some (one_more b) =
    ap (λ (v : Store). at v p.array) sl.makes ∙ other_new h1 c p.array (not_next h p.array b ok sl.live)
    ∙ block_there h p.array (one_more b) in
    let same : part_of new made ≡ part_in made (Some c) = ap (part_in made) here in
    let live : at new (part_of new made).array ≡ Some (one_more b) = ap (λ (q : Part). at new q.array) same ∙ base in
    let block : a.whole.block ≡ b = (let f : Some a.whole.block ≡ Some b = sym a.whole.live ∙ sl.live in cc) in
    let w = a.within in
    let inner : p.from + from + (to - from) ≤ a.all = omega arith in
    record {
      all = a.all;
      whole = record {
        block = one_more b;
        live = live;
        kind = sym (ap (λ (x : Block). x.kind) block) ∙ a.whole.kind;
        bytes = a.whole.bytes;
        small = a.whole.small;
      };
      within = subst (λ (q : Part). q.from + q.length ≤ a.all) (sym same) inner;
      even = a.even;
      words = a.words;
      content = sym (ap (λ (x : Block). x.content) block) ∙ a.content;
      enough = a.enough;
      marked = a.marked;
    }

pub marked_stays : (old new : Store) (s size : ℕ) (marks : List Bool) → IsPart (at old) (at new) → IsMarked old s size marks
    → IsMarked new s size marks
marked_stays old new s size marks p a =
    let same = part_stays old new s a.whole.block p a.whole.live in
    let y = again (at old (part_of old s).array) (at new (part_of old s).array) a.whole.block (p (part_of old s).array) a.whole.live in
    record {
      all = a.all;
      whole = record {
        block = y.block;
        live = ap (λ (q : Part). at new q.array) same ∙ y.live;
        kind = y.kind ∙ a.whole.kind;
        bytes = a.whole.bytes;
        small = a.whole.small;
      };
      within = subst (λ (q : Part). q.from + q.length ≤ a.all) (sym same) a.within;
      even = a.even;
      words = a.words;
      content = y.content ∙ a.content;
      enough = a.enough;
      marked = a.marked;
    }
