-- The code of statements does what they mean.
use Rattle.std.proofs.Common.{◌≡◌, ℕ, zero, suc, ◌+◌, ◌<◌, false, List, [], ◌∷◌, ◌++◌, length, map, Option, Some, None, refl, sym, ap}
use Rattle.std.proofs.Common.{◌∙◌, subst, arith}
use Rattle.std.proofs.Common.{length-append}
use Rattle.std.proofs.lemmas.Option.{none-some, same_Some}
use Rattle.std.specs.Prelude.{slice_get}
use Rattle.limbo_types.specs.Types.{Ty}
use Rattle.limbo_typed.specs.Typed as typed
use Rattle.typed_meaning.specs.Trees.{Term, Stm, Over, Eval, If, While, Enter, Loop, Looping, Block, Done, Then, Turn, join, tested}
use Rattle.typed_meaning.specs.Trees.{behind, at_turn}
use Rattle.typed_meaning.specs.Program.{Routine, term_of, evaluated, optional, local, declared_value, first_of, return_of, before}
use Rattle.typed_meaning.specs.Program.{all_before}
use Rattle.slot_code.specs.Code.{Inst, Jump, Back, Function}
use Rattle.typed_lower.specs.Terms.{branches}
use Rattle.typed_lower.specs.Statements as lower
use Rattle.typed_lower.specs.Statements.{Around, around_at, further, effects, done, condition, either, passed, inside, while_loop, do_loop}
use Rattle.typed_lower.specs.Statements.{stmt_code, stmts_code}
use Rattle.typed_lower.specs.Stands as stands
use Rattle.typed_lower.specs.Stands.{Fresh, FreshStm, FreshOption, FreshOptional, Handled, AllHandled, HasAt, Does, WhileAt, DoAt, Exits}
use Rattle.typed_lower.specs.Stands.{Looped, Well}
use Rattle.typed_lower.specs.Stands.{loop_of, body_code, while_code, do_code, first_test, turn_of, back_of, test_of}
use Rattle.typed_lower.proofs.Places.{has_front, has_back, has_at}

-- ---- blocks behind one another

tested_join : (l : Loop) (a b : Block) → join (tested l a) b ≡ tested l (join a b)
tested_join (Looping None n body) a b = refl
tested_join (Looping (Some c) n body) a b = refl

first_join : (e : Option typed.Expr) (a b : Block) → join (first_of e a) b ≡ first_of e (join a b)
first_join None a b = refl
first_join (Some e) a b = refl

module _ (types : List Ty) where
  mutual
    pub before_join : (s : typed.Stmt) (a b : Block) → join (before types s a) b ≡ before types s (join a b)
    before_join typed.Empty a b = refl
    before_join (typed.Block ss) a b = all_before_join ss (Then Over a) b
    before_join (typed.Declare xs e) a b = refl
    before_join (typed.Eval e) a b = refl
    before_join (typed.If c ss others) a b = refl
    before_join (typed.While c ss) a b = tested_join (Looping (optional c) None (all_before types ss Done)) (Then Over a) b
    before_join (typed.Do ss c) a b = refl
    before_join (typed.For first c n ss) a b =
        first_join first (tested (Looping (optional c) (optional n) (all_before types ss Done)) (Then Over a)) b
        ∙ ap (first_of first) (tested_join (Looping (optional c) (optional n) (all_before types ss Done)) (Then Over a) b)
    before_join (typed.Break n) a b = refl
    before_join (typed.Continue n) a b = refl
    before_join (typed.Return e) a b = refl
    before_join _ a b = refl

    pub all_before_join : (ss : typed.Stmts) (a b : Block) → join (all_before types ss a) b ≡ all_before types ss (join a b)
    all_before_join typed.NoStmts a b = refl
    all_before_join (typed.MoreStmts s ss) a b = before_join s (all_before types ss a) b ∙ ap (before types s) (all_before_join ss a b)

-- What is behind loops, and at their turns, is so behind statements too.
tested_behind : (l : Loop) (n : ℕ) (a : Block) → behind n (tested l a) ≡ behind n a
tested_behind (Looping None m body) n a = refl
tested_behind (Looping (Some c) m body) n a = refl

tested_at_turn : (l : Loop) (n : ℕ) (a : Block) → at_turn n (tested l a) ≡ at_turn n a
tested_at_turn (Looping None m body) n a = refl
tested_at_turn (Looping (Some c) m body) n a = refl

first_behind : (e : Option typed.Expr) (n : ℕ) (a : Block) → behind n (first_of e a) ≡ behind n a
first_behind None n a = refl
first_behind (Some e) n a = refl

first_at_turn : (e : Option typed.Expr) (n : ℕ) (a : Block) → at_turn n (first_of e a) ≡ at_turn n a
first_at_turn None n a = refl
first_at_turn (Some e) n a = refl

module _ (types : List Ty) (n : ℕ) where
  mutual
    before_behind : (s : typed.Stmt) (a : Block) → behind n (before types s a) ≡ behind n a
    before_behind (typed.Block ss) a = all_behind ss (Then Over a)
    before_behind (typed.While c ss) a = tested_behind (Looping (optional c) None (all_before types ss Done)) n (Then Over a)
    before_behind (typed.For first c m ss) a =
        first_behind first n (tested (Looping (optional c) (optional m) (all_before types ss Done)) (Then Over a))
        ∙ tested_behind (Looping (optional c) (optional m) (all_before types ss Done)) n (Then Over a)
    before_behind _ a = refl

    all_behind : (ss : typed.Stmts) (a : Block) → behind n (all_before types ss a) ≡ behind n a
    all_behind typed.NoStmts a = refl
    all_behind (typed.MoreStmts s ss) a = before_behind s (all_before types ss a) ∙ all_behind ss a

  mutual
    before_at_turn : (s : typed.Stmt) (a : Block) → at_turn n (before types s a) ≡ at_turn n a
    before_at_turn (typed.Block ss) a = all_at_turn ss (Then Over a)
    before_at_turn (typed.While c ss) a = tested_at_turn (Looping (optional c) None (all_before types ss Done)) n (Then Over a)
    before_at_turn (typed.For first c m ss) a =
        first_at_turn first n (tested (Looping (optional c) (optional m) (all_before types ss Done)) (Then Over a))
        ∙ tested_at_turn (Looping (optional c) (optional m) (all_before types ss Done)) n (Then Over a)
    before_at_turn _ a = refl

    all_at_turn : (ss : typed.Stmts) (a : Block) → at_turn n (all_before types ss a) ≡ at_turn n a
    all_at_turn typed.NoStmts a = refl
    all_at_turn (typed.MoreStmts s ss) a = before_at_turn s (all_before types ss a) ∙ all_at_turn ss a

-- ---- loops around

further_has : (m : ℕ) (xs : List Around) (n : ℕ) (b : Around) → slice_get (further m xs) n ≡ Some b
    → (a : Around) × (slice_get xs n ≡ Some a) × (b.turn ≡ a.turn + m) × (b.end ≡ a.end + m)
further_has m [] n b e = absurd (none-some b e)
further_has m (a ∷ xs) zero b e =
    let same = same_Some (record { turn = a.turn + m; end = a.end + m }) b e in
    (a, refl, ap (λ (x : Around). x.turn) (sym same), ap (λ (x : Around). x.end) (sym same))
further_has m (a ∷ xs) (suc n) b e = further_has m xs n b e

pub further_many : (m : ℕ) (xs : List Around) → length (further m xs) ≡ length xs
further_many m [] = refl
further_many m (a ∷ xs) = ap suc (further_many m xs)

one_there : (xs : List Around) (n : ℕ) → n < length xs → slice_get xs n ≡ Some (around_at xs n)
one_there [] n l = absurd (omega (arith, l))
one_there (a ∷ xs) zero l = refl
one_there (a ∷ xs) (suc n) l = one_there xs n (omega (arith, l))

module _ (routines : List Routine) (functions : List Function) (codes : List Inst) where
  abbrev D : ℕ → Block → Type 0
  D pc todo = Does routines functions codes pc todo

  abbrev X : ℕ → List Around → Block → Type 0
  X end xs rest = Exits routines functions codes end xs rest

  pub does_at : (pc pc' : ℕ) (todo : Block) → pc ≡ pc' → D pc todo → D pc' todo
  does_at pc pc' todo e d = subst (λ q. D q todo) e d

  does_same : (pc : ℕ) (a b : Block) → a ≡ b → D pc a → D pc b
  does_same pc a b e d = subst (λ x. D pc x) e d

  exits_at : (pc pc' : ℕ) (xs : List Around) (rest : Block) → pc ≡ pc' → X pc xs rest → X pc' xs rest
  exits_at pc pc' xs rest e x = subst (λ q. X q xs rest) e x

  -- Seen from so many instructions before.
  exits_further : (m end : ℕ) (xs : List Around) (rest : Block) → X (end + m) xs rest → X end (further m xs) rest
  exits_further m end xs rest (stands.exits _ _ _ ends turns) =
      stands.exits end (further m xs) rest
      (λ n b e. let f = further_has m xs n b e in does_at _ _ (behind n rest) (omega (arith, f.3)) (ends n f.0 f.1))
      (λ n b e. let f = further_has m xs n b e in does_at _ _ (at_turn n rest) (omega (arith, f.2)) (turns n f.0 f.1))

  -- Behind one more statement.
  exits_then : (end : ℕ) (xs : List Around) (s : Stm) (rest : Block) → X end xs rest → X end xs (Then s rest)
  exits_then end xs s rest (stands.exits _ _ _ ends turns) = stands.exits end xs (Then s rest) ends turns

  -- Behind more statements.
  exits_over : (types : List Ty) (ss : typed.Stmts) (end : ℕ) (xs : List Around) (rest : Block) → X end xs rest
      → X end xs (all_before types ss rest)
  exits_over types ss end xs rest (stands.exits _ _ _ ends turns) =
      stands.exits end xs (all_before types ss rest) (λ n a e. does_same _ _ _ (sym (all_behind types n ss rest)) (ends n a e))
      (λ n a e. does_same _ _ _ (sym (all_at_turn types n ss rest)) (turns n a e))

  -- In a loop.
  exits_inside : (turn : List Inst) (end : ℕ) (xs : List Around) (l : Loop) (rest : Block) → D end (Turn l rest)
      → D (end + suc (length turn)) rest → X (end + suc (length turn)) xs rest → X end (inside turn xs) (Turn l rest)
  exits_inside turn end xs l rest its behind_it (stands.exits _ _ _ ends turns) =
      stands.exits end (inside turn xs) (Turn l rest) the_end the_turn
    where
      here : Around
      here = record { turn = 0; end = suc (length turn) }

      the_end : (n : ℕ) (a : Around) → slice_get (inside turn xs) n ≡ Some a → D (end + a.end) (behind n (Turn l rest))
      the_end zero a e = does_at _ _ rest (ap (λ (x : Around). end + x.end) (same_Some here a e)) behind_it
      the_end (suc n) a e =
          let f = further_has (suc (length turn)) xs n a e in does_at _ _ (behind n rest) (omega (arith, f.3)) (ends n f.0 f.1)

      the_turn : (n : ℕ) (a : Around) → slice_get (inside turn xs) n ≡ Some a → D (end + a.turn) (at_turn n (Turn l rest))
      the_turn zero a e = does_at _ _ (Turn l rest) (omega (arith) ∙ ap (λ (x : Around). end + x.turn) (same_Some here a e)) its
      the_turn (suc n) a e =
          let f = further_has (suc (length turn)) xs n a e in does_at _ _ (at_turn n rest) (omega (arith, f.2)) (turns n f.0 f.1)

  -- ---- statements without loops

  done_does : (s : Stm) → FreshStm s → (pc : ℕ) (rest : Block) → HasAt codes pc (done s) → D (pc + length (done s)) rest
      → D pc (Then s rest)
  done_does Over f pc rest has d = stands.over pc rest (does_at _ _ rest (omega arith) d)
  done_does (Eval t) f pc rest has d = stands.evaluates pc t rest f has d
  done_does _ f pc rest has d = absurd f

  -- Either part of an `if`, where each does what it means.
  if_does : (t : Term) → Fresh t → (A O : List Inst) (a b rest : Block) (pc : ℕ) → HasAt codes pc (either t A O)
      → D (pc + length (either t A O)) rest
      → ((q : ℕ) → HasAt codes q A → q + length A + passed O ≡ pc + length (either t A O) → D (q + length A) (Then Over rest)
      → D q (join a (Then Over rest)))
      → ((q : ℕ) → HasAt codes q O → q + length O ≡ pc + length (either t A O) → D (q + length O) (Then Over rest)
      → D q (join b (Then Over rest))) → D pc (Then (If t a b) rest)
  if_does t f A [] a b rest pc has d goes_a goes_b =
      let B = branches false 0 t (length A) in
      let end : pc + length B + length A ≡ pc + length (B ++ A) = omega (arith, length-append B A) in
      let out : D (pc + length B + length A) (Then Over rest) =
      stands.over _ rest (does_at _ _ rest (sym end) d) in
      stands.chooses pc (length A) t a b rest f (has_front codes pc B A has)
      (goes_a (pc + length B) (has_back codes pc B A has) (omega (arith, length-append B A)) out)
      (goes_b (pc + length B + length A) tt (omega (arith, length-append B A)) (does_at _ _ (Then Over rest) (omega arith) out))
  if_does t f A (i ∷ is) a b rest pc has d goes_a goes_b =
      let O = i ∷ is in
      let B = branches false 0 t (suc (length A)) in
      let J = Jump (length O) ∷ O in
      let many : length (B ++ A ++ J) ≡ length B + (length A + suc (length O)) = omega (arith, length-append (B ++ A) J, length-append B A)
      in
      let end : pc + length B + suc (length A) + length O ≡ pc + length (B ++ A ++ J) = omega (arith, many) in
      let both_at : HasAt codes pc (B ++ A) = has_front codes pc (B ++ A) J has in
      let jump_at : HasAt codes (pc + length B + length A) J =
      has_at codes _ _ J (omega (arith, length-append B A)) (has_back codes pc (B ++ A) J has) in
      let out : D (pc + length B + suc (length A) + length O) (Then Over rest) = stands.over _ rest (does_at _ _ rest (sym end) d) in
      stands.chooses pc (suc (length A)) t a b rest f (has_front codes pc B A both_at)
      (goes_a (pc + length B) (has_back codes pc B A both_at) (omega (arith, many))
      (stands.jumps (pc + length B + length A) (length O) rest jump_at.0 (does_at _ _ rest (omega (arith, end)) d)))
      (goes_b (pc + length B + suc (length A)) (has_at codes _ _ O (omega arith) jump_at.1) end out)

  returned_does : (e : Option typed.Expr) → FreshOption e → (pc : ℕ) (rest : Block) → HasAt codes pc (lower.returned e)
      → D pc (Then (return_of e) rest)
  returned_does None f pc rest has = stands.leaves pc rest has.0
  returned_does (Some e) f pc rest has = stands.returns pc (term_of e) rest f has

  -- ---- loops, whose body does what it means

  abbrev pub BodyDoes : Looped → Type 0
  BodyDoes l =
      (turn : List Inst) (q : ℕ) (rest : Block) → HasAt codes q (body_code turn l)
      → D (q + length (body_code turn l)) rest → X (q + length (body_code turn l)) (inside turn l.arounds) rest
      → D q (all_before l.types l.body rest)

  abbrev WA : ℕ → Looped → Block → Type 0
  WA start l rest = WhileAt routines functions codes start l rest

  abbrev DA : ℕ → Looped → Block → Type 0
  DA start l rest = DoAt routines functions codes start l rest

  -- The body of a loop that tests first, from its test on.
  pub while_body : (l : Looped) → BodyDoes l → (start : ℕ) (rest : Block) → WA start l rest
      → D (start + length (first_test l)) (join (all_before l.types l.body Done) (Turn (loop_of l) rest))
  while_body l body start rest its = by its
    where
      N : List Inst
      N = lower.optional l.next

      B : List Inst
      B = body_code N l

      T : List Inst
      T = first_test l

      K : List Inst
      K = Back (length T + length B + length N) ∷ []

      many : length (while_code l) ≡ length T + (length B + (length N + 1))
      many = omega (arith, length-append (T ++ B ++ N) K, length-append (T ++ B) N, length-append T B)

      by : WA start l rest → D (start + length T) (join (all_before l.types l.body Done) (Turn (loop_of l) rest))
      by (stands.while_at _ _ _ well has d x) =
          let q = start + length T in
          let end : start + length (while_code l) ≡ q + length B + suc (length N) = omega (arith, many) in
          does_same q (all_before l.types l.body (Turn (loop_of l) rest)) _
          (sym (all_before_join l.types l.body Done (Turn (loop_of l) rest)))
          (body N q (Turn (loop_of l) rest)
          (has_back codes start T B (has_front codes start (T ++ B) N (has_front codes start (T ++ B ++ N) K has)))
          (stands.while_turns start l rest its)
          (exits_inside N (q + length B) l.arounds (loop_of l) rest (stands.while_turns start l rest its) (does_at _ _ rest end d)
          (exits_at _ _ l.arounds rest end x)))

  -- That of one that tests last.
  pub do_body : (l : Looped) → BodyDoes l → (start : ℕ) (rest : Block) → DA start l rest
      → D start (join (all_before l.types l.body Done) (Turn (loop_of l) rest))
  do_body l body start rest its = by its
    where
      T : List Inst
      T = condition l.condition 1

      B : List Inst
      B = body_code T l

      K : List Inst
      K = Back (length B + length T) ∷ []

      many : length (do_code l) ≡ length B + (length T + 1)
      many = omega (arith, length-append (B ++ T) K, length-append B T)

      by : DA start l rest → D start (join (all_before l.types l.body Done) (Turn (loop_of l) rest))
      by (stands.do_at _ _ _ well none has d x) =
          let end : start + length (do_code l) ≡ start + length B + suc (length T) = omega (arith, many) in
          does_same start (all_before l.types l.body (Turn (loop_of l) rest)) _
          (sym (all_before_join l.types l.body Done (Turn (loop_of l) rest)))
          (body T start (Turn (loop_of l) rest) (has_front codes start B T (has_front codes start (B ++ T) K has))
          (stands.do_turns start l rest its)
          (exits_inside T (start + length B) l.arounds (loop_of l) rest (stands.do_turns start l rest its) (does_at _ _ rest end d)
          (exits_at _ _ l.arounds rest end x)))

  -- A loop from its next test on.
  pub while_begins : (l : Looped) → BodyDoes l → (start : ℕ) (rest : Block) (c : Option typed.Expr) → l.condition ≡ c → WA start l rest
      → D start (tested (loop_of l) rest)
  while_begins l body start rest None e its =
      does_same start (Then (Enter (loop_of l)) rest) (tested (loop_of l) rest)
      (sym (ap (λ c. tested (Looping (optional c) (optional l.next) (all_before l.types l.body Done)) rest) e
      ∙ ap (λ c. Then (Enter (Looping (optional c) (optional l.next) (all_before l.types l.body Done))) rest) (sym e)))
      (stands.enters start (loop_of l) rest
      (does_at (start + length (first_test l)) start _
      (ap (λ c. start + length (condition c (suc (length (body_code (lower.optional l.next) l) + length (lower.optional l.next))))) e
      ∙ omega arith)
      (while_body l body start rest its)))
  while_begins l body start rest (Some c) e its =
      does_same start (Then (While (term_of c) (loop_of l)) rest) (tested (loop_of l) rest)
      (sym (ap (λ c. tested (Looping (optional c) (optional l.next) (all_before l.types l.body Done)) rest) e
      ∙ ap (λ x. Then (While (term_of c) (Looping (optional x) (optional l.next) (all_before l.types l.body Done))) rest) (sym e)))
      (stands.whiles start l c rest e its)

  -- ---- all statements

  passed_is : (o : List Inst) → (q n end : ℕ) → q + passed o ≡ end → (passed o ≡ n) → q + n ≡ end
  passed_is o q n end e f = subst (λ m. q + m ≡ end) f e

  optional_does : (e : Option typed.Expr) → FreshOptional e → (pc : ℕ) (rest : Block) → HasAt codes pc (lower.optional e)
      → D (pc + length (lower.optional e)) rest → D pc (first_of e rest)
  optional_does None f pc rest has d = does_at _ _ rest (omega arith) d
  optional_does (Some e) f pc rest has d =
      let h : HasAt codes pc (effects (term_of e)) = subst (λ s. HasAt codes pc (done s)) f.1 has in
      let x : D (pc + length (effects (term_of e))) rest = subst (λ s. D (pc + length (done s)) rest) f.1 d in
      subst (λ s. D pc (Then s rest)) (sym f.1) (stands.evaluates pc (term_of e) rest f.0 h x)

  module _ (types : List Ty) where
    mutual
      pub does_stmt : (s : typed.Stmt) (xs : List Around) → Handled types (length xs) s → (pc : ℕ) (rest : Block)
          → HasAt codes pc (stmt_code types xs s) → D (pc + length (stmt_code types xs s)) rest
          → X (pc + length (stmt_code types xs s)) xs rest → D pc (before types s rest)
      does_stmt typed.Empty xs f pc rest has d x = stands.over pc rest (does_at _ _ rest (omega arith) d)
      does_stmt (typed.Block ss) xs f pc rest has d x =
          does_stmts ss xs f pc (Then Over rest) has (stands.over _ rest d) (exits_then _ xs Over rest x)
      does_stmt (typed.Declare ns e) xs f pc rest has d x = stands.gives pc (map (local types) ns) (declared_value types e) rest f has d
      does_stmt (typed.Eval e) xs f pc rest has d x = done_does (evaluated e) f pc rest has d
      does_stmt (typed.If c ss others) xs f pc rest has d x =
          let O = stmts_code types xs others in
          let ys = further (passed O) xs in
          let A = stmts_code types ys ss in
          if_does (term_of c) f.0 A O (all_before types ss Done) (all_before types others Done) rest pc has d
          (λ q h e out.
          does_same q (all_before types ss (Then Over rest)) _ (sym (all_before_join types ss Done (Then Over rest)))
          (does_stmts ss ys (subst (λ n. AllHandled types n ss) (sym (further_many (passed O) xs)) f.1) q (Then Over rest) h out
          (exits_further (passed O) (q + length A) xs (Then Over rest)
          (exits_then _ xs Over rest (exits_at _ _ xs rest (sym e) x)))))
          (λ q h e out.
          does_same q (all_before types others (Then Over rest)) _ (sym (all_before_join types others Done (Then Over rest)))
          (does_stmts others xs f.2 q (Then Over rest) h out (exits_then _ xs Over rest (exits_at _ _ xs rest (sym e) x))))
      does_stmt (typed.While c ss) xs f pc rest has d x =
          let l : Looped = record { types = types; arounds = xs; condition = c; next = None; body = ss } in
          while_begins l (λ turn q after h e y. does_stmts ss (inside turn xs)
          (subst (λ n. AllHandled types n ss) (ap suc (sym (further_many (suc (length turn)) xs))) f.1) q after h e y) pc (Then Over rest)
          c refl
          (stands.while_at pc l (Then Over rest) (f.0, tt, f.1) has (stands.over _ rest d) (exits_then _ xs Over rest x))
      does_stmt (typed.Do ss c) xs f pc rest has d x =
          let l : Looped = record { types = types; arounds = xs; condition = c; next = None; body = ss } in
          stands.enters pc (loop_of l) (Then Over rest)
          (do_body l (λ turn q after h e y. does_stmts ss (inside turn xs)
          (subst (λ n. AllHandled types n ss) (ap suc (sym (further_many (suc (length turn)) xs))) f.1) q after h e y) pc (Then Over rest)
          (stands.do_at pc l (Then Over rest) (f.0, tt, f.1) refl has (stands.over _ rest d) (exits_then _ xs Over rest x)))
      does_stmt (typed.For first c n ss) xs f pc rest has d x =
          let l : Looped = record { types = types; arounds = xs; condition = c; next = n; body = ss } in
          let F = lower.optional first in
          let L = while_code l in
          let q = pc + length F in
          let end : pc + length (F ++ L) ≡ q + length L = omega (arith, length-append F L) in
          optional_does first f.0 pc (tested (loop_of l) (Then Over rest)) (has_front codes pc F L has)
          (while_begins l (λ turn q after h e y. does_stmts ss (inside turn xs)
          (subst (λ n. AllHandled types n ss) (ap suc (sym (further_many (suc (length turn)) xs))) f.3) q after h e y) q (Then Over rest) c
          refl
          (stands.while_at q l (Then Over rest) (f.1, f.2, f.3) (has_back codes pc F L has)
          (stands.over _ rest (does_at _ _ rest end d)) (exits_then _ xs Over rest (exits_at _ _ xs rest end x))))
      does_stmt (typed.Break n) xs f pc rest has d (stands.exits _ _ _ ends turns) =
          stands.breaks pc n (around_at xs n).end rest has.0
          (does_at _ _ (behind n rest) (omega arith) (ends n (around_at xs n) (one_there xs n f)))
      does_stmt (typed.Continue n) xs f pc rest has d (stands.exits _ _ _ ends turns) =
          stands.continues pc n (around_at xs n).turn rest has.0
          (does_at _ _ (at_turn n rest) (omega arith) (turns n (around_at xs n) (one_there xs n f)))
      does_stmt (typed.Return e) xs f pc rest has d x = returned_does e f pc rest has
      does_stmt _ xs f pc rest has d x = absurd f

      pub does_stmts : (ss : typed.Stmts) (xs : List Around) → AllHandled types (length xs) ss → (pc : ℕ) (rest : Block)
          → HasAt codes pc (stmts_code types xs ss) → D (pc + length (stmts_code types xs ss)) rest
          → X (pc + length (stmts_code types xs ss)) xs rest → D pc (all_before types ss rest)
      does_stmts typed.NoStmts xs f pc rest has d x = does_at _ _ rest (omega arith) d
      does_stmts (typed.MoreStmts s ss) xs f pc rest has d x =
          let R = stmts_code types xs ss in
          let ys = further (length R) xs in
          let A = stmt_code types ys s in
          let q = pc + length A in
          let end : pc + length (A ++ R) ≡ q + length R = omega (arith, length-append A R) in
          does_stmt s ys (subst (λ n. Handled types n s) (sym (further_many (length R) xs)) f.0) pc (all_before types ss rest)
          (has_front codes pc A R has)
          (does_stmts ss xs f.1 q rest (has_back codes pc A R has) (does_at _ _ rest end d) (exits_at _ _ xs rest end x))
          (exits_further (length R) q xs (all_before types ss rest)
          (exits_over types ss (q + length R) xs rest (exits_at _ _ xs rest end x)))
