-- An example under the law: processes of two variables, of any types, that move values, make new ones and start others. Their code
-- makes a block in two instructions, and between them the block is its maker's own and stands for nothing; so two processes may make
-- blocks in one order and name them in the other.
use Rattle.std.proofs.Common.{◌≡◌, ◌≢◌, ℕ, zero, suc, ◌+◌, ◌<◌, true, false, List, [], ◌∷◌, length, append-nil, Option, Some, None, refl, sym, ap, subst, ◌∙◌, arith, ◌⊎◌, inl, inr}
use Rattle.std.proofs.Math.ListN.{set}
use Rattle.process_model.specs.Process.{Branch, Effect, Went, Spawns, Ends, Doing, Ready, Waiting, Asking, Gone, Rules}
use Rattle.process_model.specs.Naming.{Still, names}
use Rattle.process_model.specs.Alone.{no_loss, one_loss}
use Rattle.process_model.specs.Follows.{StandsAlike, Matches, Follows}
use Rattle.process_model.specs.Law.{EveryJournal}
use Rattle.process_model.proofs.Journals.{every_journal}
use Rattle.process_model.proofs.Quiet.{quiets_none}
use Rattle.heap_model.specs.Heap.{Heap, at, there, in_one}
use Rattle.heap_model.specs.Facts.{Named, Carrier, Facts, IsUnmade, Grows, Learns, IsFree, IsInner, Is, Free}
use Rattle.heap_model.specs.Alike.{Holds, word}
use Rattle.heap_model.specs.Worlds.{Sets, blocks, WorldsAlike, Changes, Leaves}
use Rattle.heap_model.specs.Joined.{World, heap_naming, Parts, sides}
use Rattle.heap_model.proofs.Heap.{fun_ext, there_is, there_of, within}
use Rattle.heap_model.proofs.Alike.{covers_not_free}
use Rattle.heap_model.proofs.Settle.{holds_pair}
use Rattle.heap_model.proofs.Changes.{set_free, there_on}
use Rattle.heap_model.proofs.Growing.{grows_same, learns_grows, name_it}
use Rattle.heap_model.proofs.Building.{with_maker, maker_is, form_is, maker_grows, maker_world, with_name, name_learns}
use Rattle.heap_model.proofs.Made.{with_last, last_sets, last_length, words_hold}
use Rattle.heap_model.proofs.Joined.{heaps}
use Rattle.heap_model.proofs.Values.{Value, Ref, NoMore, More, Word, Refer, one, one_is, one_same, in_value, in_words, Stands, Form, Adt, Formed, HeapValue, Block, contents, to, from, stands_grows}

-- first = second; first = ref A(second); a child begins with both variables
pub data Ops : Type 0 where
  Done : Ops
  Move : Ops → Ops
  Make : Ops → Ops
  Fork : Ops → Ops → Ops

pub record Program : Type 0 where
  pub first : Value
  pub second : Value
  pub todo : Ops

-- all words of a variable are moved; a new block; it gets the words of the second variable, and the first refers to it; a child begins
pub data Instrs : Type 0 where
  Stop : Instrs
  MoveAll : Instrs → Instrs
  New : Instrs → Instrs
  Fill : Instrs → Instrs
  Start : Instrs → Instrs → Instrs

pub record Code : Type 0 where
  pub first : List Word
  pub second : List Word
  pub temp : Option ℕ
  pub todo : Instrs

abbrev pub code_of : Ops → Instrs
code_of Done = Stop
code_of (Move ops) = MoveAll (code_of ops)
code_of (Make ops) = New (Fill (code_of ops))
code_of (Fork child ops) = Start (code_of child) (code_of ops)

abbrev pub W : Type 0
W = World HeapValue ℕ

abbrev pub X : Type 0
X = World Block ℕ

abbrev pub with_heap : {A : Type 0} → World A ℕ → Heap A → World A ℕ
with_heap w h = record { heap = h; outside = w.outside }

abbrev pub ref_adt : Value → HeapValue
ref_adt b = record { form = Adt; parts = More b NoMore }

abbrev pub acts : W → Value → Value → Ops → Effect W Program ℕ ℕ ℕ
acts w a b Done = Ends w 0
acts w a b (Move ops) = Went w (record { first = b; second = b; todo = ops })
acts w a b (Make ops) = Went (with_heap w (with_last w.heap (ref_adt b))) (record { first = Ref (Some (length w.heap)); second = b; todo = ops })
acts w a b (Fork child ops) = Spawns w (record { first = a; second = b; todo = child }) (record { first = a; second = b; todo = ops })

abbrev pub blank : Block
blank = record { kind = Formed Adt; words = [] }

abbrev pub filled : List Word → Block
filled words = record { kind = Formed Adt; words = words }

abbrev pub fills_in : X → List Word → List Word → Option ℕ → Instrs → Effect X Code ℕ ℕ ℕ
fills_in x a b None is = Ends x 1
fills_in x a b (Some n) is = Went (with_heap x (set x.heap n (Some (filled b)))) (record { first = Refer (Some n) ∷ []; second = b; temp = None; todo = is })

abbrev pub obeys : X → List Word → List Word → Option ℕ → Instrs → Effect X Code ℕ ℕ ℕ
obeys x a b t Stop = Ends x 0
obeys x a b t (MoveAll is) = Went x (record { first = b; second = b; temp = t; todo = is })
obeys x a b t (New is) = Went (with_heap x (with_last x.heap blank)) (record { first = a; second = b; temp = Some (length x.heap); todo = is })
obeys x a b t (Fill is) = fills_in x a b t is
obeys x a b t (Start child is) = Spawns x (record { first = a; second = b; temp = None; todo = child }) (record { first = a; second = b; temp = t; todo = is })

abbrev pub program : Rules W Program ℕ ℕ ℕ ℕ
program = record { step = λ w p. acts w p.first p.second p.todo; wake = λ j v w p. record { world = w; process = p }; answer = λ a w p. Ends w a; down = λ l w. None }

abbrev pub code : Rules X Code ℕ ℕ ℕ ℕ
code = record { step = λ x q. obeys x q.first q.second q.temp q.todo; wake = λ j v x q. record { world = x; process = q }; answer = λ a x q. Ends x a; down = λ l x. None }

abbrev pub names_of : Program → ℕ → ℕ
names_of p n = in_value p.first n + in_value p.second n

abbrev pub words_of : Code → ℕ → ℕ
words_of q n = in_words q.first n + in_words q.second n + one q.temp n

abbrev pub no_table : List (Branch ℕ) → ℕ → ℕ
no_table bs n = 0

-- a block that is made and not yet filled
pub record IsNew (k : Facts Block Form) (j : ℕ) (x : Heap Block) (n : ℕ) : Type 0 where
  pub unknown : k.fact n ≡ None
  pub form : k.form n ≡ Some Adt
  pub mine : k.maker n ≡ Some j
  pub now : at x n ≡ Some blank

-- where the code is, beside the program
pub data At (k : Facts Block Form) (j : ℕ) (x : Heap Block) : Ops → Option ℕ → Instrs → Type 0 where
  begins : {ops : Ops} → At k j x ops None (code_of ops)
  fills : {ops : Ops} {n : ℕ} → IsNew k j x n → At k j x (Make ops) (Some n) (Fill (code_of ops))

pub record IsReady (k : Facts Block Form) (j : ℕ) (x : Heap Block) (p : Program) (q : Code) : Type 0 where
  pub first : Stands k p.first q.first
  pub second : Stands k p.second q.second
  pub live : (n : ℕ) → 0 < words_of q n → there (at x n) ≡ true
  pub place : At k j x p.todo q.temp q.todo

abbrev pub parts : Parts HeapValue Block Form ℕ ℕ Program Code ℕ ℕ ℕ ℕ ℕ
parts = record {
  contents = contents;
  program = program;
  code = code;
  names = names_of;
  table = no_table;
  words = words_of;
  table_words = no_table;
  value = λ k v u. v ≡ u;
  outsides = λ o n. o ≡ n;
  later = λ o n. Unit {0};
  ready = λ k i x p q. IsReady k i x.heap p q;
  asking = λ k i x p q. ⊥;
  waiting = λ k i x bs cs p q. ⊥;
}

-- ---- what a process holds

not_free : (k : Facts Block Form) (v : Value) (ws : List Word) (q : ℕ) → Stands k v ws → 0 < in_words ws q → Free k q → ⊥
not_free k v ws q s p f = covers_not_free k _ q f (from k v ws q s p)

value_holds : (k : Facts Block Form) (who : ℕ → Type 0) (x : Heap Block) (v : Value) (ws : List Word) → Stands k v ws → ((q : ℕ) → 0 < in_words ws q → there (at x q) ≡ true) → Holds k who (blocks contents x) (in_value v) (in_words ws)
value_holds k who x v ws s live = words_hold contents k who x (in_value v) (in_words ws) live (λ q p. from k v ws q s p) (λ m p. let t = to k v ws m s p in (t.block, t.named, t.stands))

-- the word of a new block
temp_holds : (k : Facts Block Form) (j : ℕ) (x : Heap Block) (n : ℕ) → IsNew k j x n → Holds k (λ i. i ≡ j) (blocks contents x) (λ m. 0) (one (Some n))
temp_holds k j x n new = record {
  same = record {
    own = one (Some n);
    roots = λ q p. p;
    live = λ q p. there_of (at x q) blank (has q p);
    way = λ q p. word p;
    within = λ q r o f u. absurd (let z : 0 < 0 = subst (λ o. 0 < in_one contents.words o r) (has q o) u in omega arith);
    covers = λ q o. inl (subst IsInner (sym (ap k.fact (is q o) ∙ new.unknown)) tt);
    to = λ m p. absurd (omega arith);
  };
  mine = λ q o f. (j, refl, ap k.maker (is q o) ∙ new.mine);
}
  where
    is : (q : ℕ) → 0 < one (Some n) q → q ≡ n
    is q p = let z : Some n ≡ Some q = one_is (Some n) q p in cc

    has : (q : ℕ) → 0 < one (Some n) q → at x q ≡ Some blank
    has q p = ap (at x) (is q p) ∙ new.now

no_temp : (k : Facts Block Form) (j : ℕ) (x : Heap Block) → Holds k (λ i. i ≡ j) (blocks contents x) (λ m. 0) (one None)
no_temp k j x = words_hold contents k _ x (λ m. 0) (one None) (λ q p. absurd (omega arith)) (λ q p. absurd (omega arith)) (λ m p. absurd (omega arith))

place_holds : (k : Facts Block Form) (j : ℕ) (x : Heap Block) (ops : Ops) (t : Option ℕ) (is : Instrs) → At k j x ops t is → Holds k (λ i. i ≡ j) (blocks contents x) (λ m. 0) (one t)
place_holds k j x ops t is begins = no_temp k j x
place_holds k j x ops t is (fills {n = n} new) = temp_holds k j x n new

ready_holds : (k : Facts Block Form) (j : ℕ) (x : Heap Block) (p : Program) (q : Code) → IsReady k j x p q → Holds k (λ n. n ≡ j) (blocks contents x) (names_of p) (words_of q)
ready_holds k j x p q r =
    subst (λ f. Holds k (λ n. n ≡ j) (blocks contents x) f (words_of q)) (fun_ext (λ n. sum (in_value p.first n) (in_value p.second n)))
    (holds_pair k _ (blocks contents x) _ _ (λ m. 0) (one q.temp)
    (holds_pair k _ (blocks contents x) (in_value p.first) (in_words q.first) (in_value p.second) (in_words q.second)
    (value_holds k _ x p.first q.first r.first (λ n l. r.live n (omega arith)))
    (value_holds k _ x p.second q.second r.second (λ n l. r.live n (omega arith))))
    (place_holds k j x p.todo q.temp q.todo r.place))
  where
    sum : (a b : ℕ) → a + b + 0 ≡ a + b
    sum a b = omega arith

place_stays : (k k' : Facts Block Form) (j : ℕ) (x x' : Heap Block) (ops : Ops) (t : Option ℕ) (is : Instrs) → Leaves j k k' x x' → ((n : ℕ) → 0 < one t n → there (at x' n) ≡ true) → At k j x ops t is → At k' j x' ops t is
place_stays k k' j x x' ops t is l live begins = begins
place_stays k k' j x x' ops t is l live (fills {n = n} new) = elim (l.free n (subst IsFree (sym new.unknown) tt) new.mine) [
  | inl s ↦ fills (record { unknown = s.0 ∙ new.unknown; form = l.grows.forms n Adt new.form; mine = l.grows.makers n j new.mine; now = s.1 ∙ new.now })
  | inr s ↦ absurd (let e : there (at x' n) ≡ true = live n (let y = one_same n in omega arith) in let z : false ≡ true = sym (ap there s.1) ∙ e in cc)
]

ready_stays : (k k' : Facts Block Form) (j : ℕ) (x x' : Heap Block) (p : Program) (q : Code) → IsReady k j x p q → Leaves j k k' x x' → Holds k' (λ n. n ≡ j) (blocks contents x') (names_of p) (words_of q) → IsReady k' j x' p q
ready_stays k k' j x x' p q r l h = record {
  first = stands_grows k k' l.grows p.first q.first r.first;
  second = stands_grows k k' l.grows p.second q.second r.second;
  live = λ n u. h.same.live n (h.same.roots n u);
  place = place_stays k k' j x x' p.todo q.temp q.todo l (λ n u. h.same.live n (h.same.roots n (omega arith))) r.place;
}

no_change : (these : ℕ → Type 0) (k : Facts Block Form) (x : Heap Block) → Changes these k k x x
no_change these k x = record { grows = grows_same k; there = λ q b e. (b, e); free = λ q j f m ne. (refl, refl); carriers = λ q d e. refl }

-- ---- what one instruction owes

-- a block that is made and not yet filled: one instruction without a step
abbrev pub filling : Option ℕ → ℕ
filling None = 0
filling (Some n) = 1

abbrev pub place : Code → ℕ
place q = filling q.temp

set_sets : {A : Type 0} (h : Heap A) (n : ℕ) (a b : A) → at h n ≡ Some b → Sets h (set h n (Some a)) n (Some a)
set_sets {A = A} h n a b e = record { here = here h n e; apart = λ q ne. apart h n q ne }
  where
    here : (h : Heap A) (n : ℕ) → at h n ≡ Some b → at (set h n (Some a)) n ≡ Some a
    here [] n e = absurd cc
    here (o ∷ os) zero e = refl
    here (o ∷ os) (suc n) e = here os n e

    apart : (h : Heap A) (n q : ℕ) → (q ≡ n → ⊥) → at (set h n (Some a)) q ≡ at h q
    apart [] n q ne = refl
    apart (o ∷ os) zero zero ne = absurd (ne refl)
    apart (o ∷ os) zero (suc q) ne = refl
    apart (o ∷ os) (suc n) zero ne = refl
    apart (o ∷ os) (suc n) (suc q) ne = apart os n q (λ e. ne (ap suc e))

set_length : {A : Type 0} (h : Heap A) (n : ℕ) (a : A) → length (set h n (Some a)) ≡ length h
set_length [] n a = refl
set_length (o ∷ os) zero a = refl
set_length (o ∷ os) (suc n) a = ap suc (set_length os n a)

pub M : Facts Block Form → ℕ → W → X → Program → Code → Effect X Code ℕ ℕ ℕ → Type 0
M k i w x p q e = Matches (sides parts) place (place q) k i w x p e

module _ (k : Facts Block Form) (i : ℕ) (w : W) (x : X) (a b : Value) (fa fb : List Word) (s : WorldsAlike contents k w.heap x.heap) (same : w.outside ≡ x.outside) (first : Stands k a fa) (second : Stands k b fb) where
  abbrev P : Ops → Program
  P ops = record { first = a; second = b; todo = ops }

  abbrev Q : Option ℕ → Instrs → Code
  Q t is = record { first = fa; second = fb; temp = t; todo = is }

  abbrev Lives : Option ℕ → Type 0
  Lives t = (n : ℕ) → 0 < in_words fa n + in_words fb n + one t n → there (at x.heap n) ≡ true

  ended : M k i w x (P Done) (Q None Stop) (Ends x 0)
  unfolding M
  ended = record {
    now = k;
    changes = (no_change (λ j. j ≡ i) k x.heap, tt);
    world = w;
    comes = record { steps = 0; world = w; before = P Done; quiets = quiets_none program (heap_naming contents.inside names_of no_table) w (P Done); does = refl };
    worlds = (s, same);
  }

  moves : (ops : Ops) → Lives None → M k i w x (P (Move ops)) (Q None (MoveAll (code_of ops))) (obeys x fa fb None (MoveAll (code_of ops)))
  unfolding M
  moves ops live = record {
    now = k;
    changes = (no_change (λ j. j ≡ i) k x.heap, tt);
    steps = 1;
    world = w;
    after = record { first = b; second = b; todo = ops };
    burst = one_loss (quiets_none program (heap_naming contents.inside names_of no_table) w (P (Move ops))) refl;
    related = record { first = second; second = second; live = λ n l. live n (omega arith); place = begins };
    worlds = (s, same);
    pace = λ z. absurd (omega arith);
  }

  -- a child has what both variables name, and no block of its own
  forks : (child ops : Ops) → Lives None → M k i w x (P (Fork child ops)) (Q None (Start (code_of child) (code_of ops))) (obeys x fa fb None (Start (code_of child) (code_of ops)))
  unfolding M
  forks child ops live = record {
    now = k;
    changes = (no_change (λ j. j ≡ i) k x.heap, tt);
    world = w;
    own = P child;
    after = P ops;
    comes = record { steps = 0; world = w; before = P (Fork child ops); quiets = quiets_none program (heap_naming contents.inside names_of no_table) w (P (Fork child ops)); does = refl };
    related_child = λ j. record { first = first; second = second; live = live; place = begins };
    related = record { first = first; second = second; live = live; place = begins };
    worlds = (s, same);
  }

  -- a new block: nothing is known of it but its maker
  news : (ops : Ops) → Lives None → M k i w x (P (Make ops)) (Q None (New (Fill (code_of ops)))) (obeys x fa fb None (New (Fill (code_of ops))))
  unfolding M
  news ops live = record {
    now = k';
    changes = (
      record {
        grows = g;
        there = λ q c e. there_is (at x' q) (there_on x.heap x' n blank sets q (there_of (at x.heap q) c e));
        free = λ q j f m ne. (refl, sets.apart q (λ z. absurd (let y : None ≡ Some j = sym u.maker ∙ (ap k.maker (sym z) ∙ m) in cc)));
        carriers = λ q d e. sets.apart q (λ z. absurd (let y : None ≡ Some (Carrier d) = sym u.fact ∙ (ap k.fact (sym z) ∙ e) in cc));
      },
      tt,
    );
    steps = 0;
    world = w;
    after = P (Make ops);
    burst = no_loss (quiets_none program (heap_naming contents.inside names_of no_table) w (P (Make ops)));
    related = record {
      first = stands_grows k k' g a fa first;
      second = stands_grows k k' g b fb second;
      live = λ q l. lives q l;
      place = fills (record { unknown = u.fact; form = form_is k n i (Some Adt); mine = maker_is k n i (Some Adt); now = sets.here });
    };
    worlds = (
      maker_world contents k n i (Some Adt) w.heap x' u more
          (set_free contents k w.heap x.heap x' n blank s u.fact (omega (arith, last_length x.heap blank)) more sets (λ q p. absurd (omega arith)) (λ q f p. absurd (omega arith))),
      same,
    );
    pace = λ z. omega arith;
  }
    where
      n : ℕ
      n = length x.heap

      x' : Heap Block
      x' = with_last x.heap blank

      k' : Facts Block Form
      k' = with_maker k n i (Some Adt)

      more : n < length x'
      more = omega (arith, last_length x.heap blank)

      u : IsUnmade k n
      u = s.unmade n (omega arith)

      g : Grows k k'
      g = maker_grows k n i (Some Adt) u

      sets : Sets x.heap x' n (Some blank)
      sets = last_sets x.heap blank

      either : (a b : ℕ) → 0 < a + b → (0 < a) ⊎ (0 < b)
      either zero b p = inr (omega arith)
      either (suc a) b p = inl (omega arith)

      lives : (q : ℕ) → 0 < in_words fa q + in_words fb q + one (Some n) q → there (at x' q) ≡ true
      lives q l = elim (either (in_words fa q + in_words fb q) (one (Some n) q) l) [
        | inl y ↦ there_on x.heap x' n blank sets q (live q (omega arith))
        | inr y ↦ let e : Some n ≡ Some q = one_is (Some n) q y in let f : n ≡ q = cc in there_of (at x' q) blank (ap (at x') (sym f) ∙ sets.here)
      ]

  -- the block gets the words of the second variable, and stands for the source's new heap value
  fills_it : (ops : Ops) (n : ℕ) → IsNew k i x.heap n → Lives (Some n) → M k i w x (P (Make ops)) (Q (Some n) (Fill (code_of ops))) (obeys x fa fb (Some n) (Fill (code_of ops)))
  unfolding M
  fills_it ops n new live = record {
    now = now;
    changes = (
      record {
        grows = g;
        there = λ q c e. there_is (at x' q) (there_on x.heap x' n (filled fb) sets q (there_of (at x.heap q) c e));
        free = λ q j f m ne. let d = other q j m ne in (learns.apart q d, sets.apart q d);
        carriers = λ q d e. sets.apart q (λ z. absurd (let y : None ≡ Some (Carrier d) = sym new.unknown ∙ (ap k.fact (sym z) ∙ e) in cc));
      },
      tt,
    );
    steps = 1;
    world = with_heap w w';
    after = record { first = Ref (Some m); second = b; todo = ops };
    burst = one_loss (quiets_none program (heap_naming contents.inside names_of no_table) w (P (Make ops))) refl;
    related = record {
      first = (Some n, refl, learns.now);
      second = stands_grows k now g b fb second;
      live = λ q p. there_on x.heap x' n (filled fb) sets q (live q (omega arith));
      place = begins;
    };
    worlds = (
      name_it contents k now w.heap w' x' m n (ref_adt b) (filled fb)
          (set_free contents k w.heap x.heap x' n (filled fb) s new.unknown (omega (arith, set_length x.heap n (filled fb))) bound sets (λ q p. live q (omega arith)) (λ q f p. absurd (not_free k b fb q second p f)))
          learns sets.here (record { form = g.forms n Adt new.form; kind = refl; words = ([], fb, [], tt, sym (append-nil fb), stands_grows k now g b fb second, tt) })
          (omega arith) (omega (arith, last_length w.heap (ref_adt b))) (last_sets w.heap (ref_adt b)),
      same,
    );
    pace = λ z. absurd (omega arith);
  }
    where
      m : ℕ
      m = length w.heap

      w' : Heap HeapValue
      w' = with_last w.heap (ref_adt b)

      x' : Heap Block
      x' = set x.heap n (Some (filled fb))

      fresh : (q : ℕ) → Is k m q → ⊥
      fresh q e = s.unnamed m q (omega arith) e

      now : Facts Block Form
      now = with_name k n m fresh

      learns : Learns k now n (Named m)
      learns = name_learns k n m fresh new.unknown

      g : Grows k now
      g = learns_grows k now n (Named m) learns

      bound : n < length x'
      bound = let y = within x.heap n (there_of (at x.heap n) blank new.now) in omega (arith, set_length x.heap n (filled fb))

      sets : Sets x.heap x' n (Some (filled fb))
      sets = set_sets x.heap n (filled fb) blank new.now

      other : (q j : ℕ) → k.maker q ≡ Some j → (j ≡ i → ⊥) → q ≢ n
      other q j e ne z = ne (let y : Some j ≡ Some i = sym e ∙ (ap k.maker z ∙ new.mine) in cc)

  pub each_at : (ops : Ops) (t : Option ℕ) (is : Instrs) → At k i x.heap ops t is → Lives t → M k i w x (P ops) (Q t is) (obeys x fa fb t is)
  each_at Done t is begins live = ended
  each_at (Move ops) t is begins live = moves ops live
  each_at (Make ops) t is begins live = news ops live
  each_at (Fork child ops) t is begins live = forks child ops live
  each_at ops t is (fills {ops = rest} {n = n} new) live = fills_it rest n new live

-- ---- the law

pub rooted : (k : Facts Block Form) (i : ℕ) (x : X) (d : Doing Program ℕ) (e : Doing Code ℕ) → StandsAlike (sides parts) k i x (Some d) (Some e) → Holds k (λ j. j ≡ i) (blocks contents x.heap) (names (sides parts).naming d) (names (sides parts).code_naming e)
rooted k i x (Ready p) (Ready q) r = ready_holds k i x.heap p q r
rooted k i x Gone Gone r = no_temp k i x.heap
rooted k i x (Ready p) Gone r = absurd r
rooted k i x (Ready p) (Waiting cs q) r = absurd r
rooted k i x (Ready p) (Asking q) r = absurd r
rooted k i x (Waiting bs p) e r = waits bs p e r
  where
    waits : (bs : List (Branch ℕ)) (p : Program) (e : Doing Code ℕ) → StandsAlike (sides parts) k i x (Some (Waiting bs p)) (Some e) → Holds k (λ j. j ≡ i) (blocks contents x.heap) (names (sides parts).naming (Waiting bs p)) (names (sides parts).code_naming e)
    waits bs p (Ready q) r = absurd r
    waits bs p (Waiting cs q) r = absurd r
    waits bs p (Asking q) r = absurd r
    waits bs p Gone r = absurd r
rooted k i x (Asking p) e r = asks p e r
  where
    asks : (p : Program) (e : Doing Code ℕ) → StandsAlike (sides parts) k i x (Some (Asking p)) (Some e) → Holds k (λ j. j ≡ i) (blocks contents x.heap) (names (sides parts).naming (Asking p)) (names (sides parts).code_naming e)
    asks p (Ready q) r = absurd r
    asks p (Waiting cs q) r = absurd r
    asks p (Asking q) r = absurd r
    asks p Gone r = absurd r
rooted k i x Gone (Ready q) r = absurd r
rooted k i x Gone (Waiting cs q) r = absurd r
rooted k i x Gone (Asking q) r = absurd r

pub keeps : (k now : Facts Block Form) (i : ℕ) (x x' : X) (d : Doing Program ℕ) (e : Doing Code ℕ) → StandsAlike (sides parts) k i x (Some d) (Some e) → Leaves i k now x.heap x'.heap
    → Holds now (λ j. j ≡ i) (blocks contents x'.heap) (names (sides parts).naming d) (names (sides parts).code_naming e) → StandsAlike (sides parts) now i x' (Some d) (Some e)
keeps k now i x x' (Ready p) (Ready q) r l h = ready_stays k now i x.heap x'.heap p q r l h
keeps k now i x x' Gone Gone r l h = tt
keeps k now i x x' (Waiting bs p) (Waiting cs q) r l h = absurd r
keeps k now i x x' (Asking p) (Asking q) r l h = absurd r
keeps k now i x x' _ _ r l h = absurd r

pub within_two : (k : Facts Block Form) (i : ℕ) (x : Heap Block) (ops : Ops) (t : Option ℕ) (is : Instrs) → At k i x ops t is → filling t < 2
within_two k i x ops t is begins = omega arith
within_two k i x ops t is (fills new) = omega arith

pub each : (k : Facts Block Form) (i : ℕ) (w : W) (x : X) (p : Program) (q : Code) → IsReady k i x.heap p q → WorldsAlike contents k w.heap x.heap → w.outside ≡ x.outside → M k i w x p q (obeys x q.first q.second q.temp q.todo)
each k i w x p q r s same = each_at k i w x p.first p.second q.first q.second s same r.first r.second p.todo q.temp q.todo r.place r.live

unfoldable pub follows : Follows (sides parts)
unfolding M
follows = record {
  heaps = heaps parts (λ k now v u g e. e) (λ o. tt);
  table = λ k i x bs cs p q h. absurd h;
  rooted = rooted;
  keeps = λ k now i x x' d e r l h. keeps k now i x x' d e r l.0 h;
  place = place;
  bound = 2;
  some = omega arith;
  within = λ k i x p q r. within_two k i x.heap p.todo q.temp q.todo r.place;
  each = λ k i w x p q r e. each k i w x p q r e.0 e.1;
  answers = λ k i a w x p q h. absurd h;
  downs = λ k l w x x' e f. absurd cc;
  meets = λ k i j w x bs cs p q n a a' bs' cs' p' q' l b b' ne h. absurd h;
}

-- Every journal of the code is a run of the program, with the same released, and of two instructions in a row of one process one is
-- a step.
pub law : (k : Facts Block Form) (w : W) (x : X) (p : Program) (q : Code) → IsReady k 0 x.heap p q → WorldsAlike contents k w.heap x.heap → w.outside ≡ x.outside → Still (sides parts).naming (names_of p) w → EveryJournal (sides parts) k w x p q 2
unfolding follows
law k w x p q r s same st = every_journal (sides parts) follows k w x p q r (s, same) st
