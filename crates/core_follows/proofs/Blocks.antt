-- The code of statements and blocks does what they do from where it begins.
use Rattle.std.proofs.Common.{◌≡◌, ℕ, zero, suc, ◌+◌, ◌<◌, ◌≤◌, List, [], ◌∷◌, ◌++◌, length, Some, None, refl, sym, ap, subst}
use Rattle.std.proofs.Common.{arith, length-append}
use Rattle.limbo_layout.specs.Adts.{Def}
use Rattle.limbo_meaning.specs.Trees as tree
use Rattle.limbo_meaning.specs.Trees.{Term, Stm, Over, Eval, If, While, Enter, Break, Continue, Leave, Loop, Looping, Block, Done, Then}
use Rattle.limbo_meaning.specs.Trees.{Turn}
use Rattle.limbo_meaning.specs.Trees.{Again, join, entered, behind, at_turn}
use Rattle.core_code.specs.Code.{Instr, Unless, Jump, Back, Return}
use Rattle.core_code.specs.Terms.{lower}
use Rattle.core_code.specs.Statements.{Around, further, leaves_at, turns_at, in_loop, whole, whole_if, test}
use Rattle.core_code.specs.Statements.{stm_code, block_code, stm_slots, block_slots}
use Rattle.core_follows.specs.Drops.{HasAt}
use Rattle.core_follows.specs.Handled.{HandledStm, HandledBlock}
use Rattle.core_follows.specs.Does.{LoopIn, loop_of, tested_body, tested_head, entered_body, tested_turn, tested_back, entered_turn}
use Rattle.core_follows.specs.Does.{entered_test, Does, ends, over, jumps, evaluates, chooses, breaks, continues, returns, leaves, enters}
use Rattle.core_follows.specs.Does.{tests, tested_turns, entered_turns, TestedAt, tested_at, EnteredAt, entered_at, Exits, exits}
use Rattle.core_follows.proofs.Holding.{has_front, has_back, has_more}

further_long : (k : ℕ) (around : List Around) → length (further k around) ≡ length around
further_long k [] = refl
further_long k (a ∷ around) = ap suc (further_long k around)

further_leaves : (k n : ℕ) (around : List Around) → n < length around → leaves_at n (further k around) ≡ k + leaves_at n around
further_leaves k n [] l = absurd (omega arith)
further_leaves k zero (a ∷ around) l = refl
further_leaves k (suc n) (a ∷ around) l = further_leaves k n around (omega arith)

further_turns : (k n : ℕ) (around : List Around) → n < length around → turns_at n (further k around) ≡ k + turns_at n around
further_turns k n [] l = absurd (omega arith)
further_turns k zero (a ∷ around) l = refl
further_turns k (suc n) (a ∷ around) l = further_turns k n around (omega arith)

behind_join : (defs : List Def) (k n : ℕ) (b r : Block) → HandledBlock defs k b → behind n (join b r) ≡ behind n r
behind_join defs k n Done r h = refl
behind_join defs k n (Then s b) r h = behind_join defs k n b r h.1
behind_join defs k n (Turn l b) r h = absurd h
behind_join defs k n (Again l b) r h = absurd h

at_turn_join : (defs : List Def) (k n : ℕ) (b r : Block) → HandledBlock defs k b → at_turn n (join b r) ≡ at_turn n r
at_turn_join defs k n Done r h = refl
at_turn_join defs k n (Then s b) r h = at_turn_join defs k n b r h.1
at_turn_join defs k n (Turn l b) r h = absurd h
at_turn_join defs k n (Again l b) r h = absurd h

module _ (defs : List Def) (codes : List Instr) (size : ℕ) where
  abbrev D : ℕ → Block → Type 0
  D pc b = Does defs codes size pc b

  abbrev X : ℕ → List Around → Block → Type 0
  X e around r = Exits defs codes size e around r

  pub does_at : (pc pc' : ℕ) (b : Block) → pc ≡ pc' → D pc b → D pc' b
  does_at pc pc' b e d = subst (λ (q : ℕ). D q b) e d

  exits_at : (e e' : ℕ) (around : List Around) (r : Block) → e ≡ e' → X e around r → X e' around r
  exits_at e e' around r q x = subst (λ (z : ℕ). X z around r) q x

  exits_further : (e k : ℕ) (around : List Around) (r : Block) → X (e + k) around r → X e (further k around) r
  exits_further e k around r (exits f h) = exits
      (λ (n : ℕ) (l : n < length (further k around)). let m = further_long k around in let a : n < length around = omega arith in let x =
      further_leaves k n around a in
      does_at (e + k + leaves_at n around) (e + leaves_at n (further k around)) (behind n r) (omega arith) (f n a))
      (λ (n : ℕ) (l : n < length (further k around)). let m = further_long k around in let a : n < length around = omega arith in let x =
      further_turns k n around a in
      does_at (e + k + turns_at n around) (e + turns_at n (further k around)) (at_turn n r) (omega arith) (h n a))

  exits_join : (k e : ℕ) (around : List Around) (b r : Block) → HandledBlock defs k b → X e around r → X e around (join b r)
  exits_join k e around b r hb (exits f h) = exits
      (λ n l. subst (D (e + leaves_at n around)) (sym (behind_join defs k n b r hb)) (f n l))
      (λ n l. subst (D (e + turns_at n around)) (sym (at_turn_join defs k n b r hb)) (h n l))

  exits_over : (e : ℕ) (around : List Around) (r : Block) → X e around r → X e around (Then Over r)
  exits_over e around r (exits f h) = exits f h

  -- the end of a loop's body, where its next turn begins
  pub body_exits : (place e b k : ℕ) (around : List Around) (l : Loop) (r : Block) → place + b ≡ e → D e r → D place (Turn l r)
      → X (e + k) around r → X place (in_loop b k around) (Turn l r)
  body_exits place e b k around l r q d turn (exits f h) = exits
      (λ n m. leaves n m) (λ n m. turns n m)
    where
      leaves : (n : ℕ) → n < length (in_loop b k around) → D (place + leaves_at n (in_loop b k around)) (behind n (Turn l r))
      leaves zero m = does_at e (place + b) r (sym q) d
      leaves (suc n) m =
          let y = further_long (b + k) around in
          let a : n < length around = omega arith in
          let x = further_leaves (b + k) n around a in
          does_at (e + k + leaves_at n around) (place + leaves_at n (further (b + k) around)) (behind n r) (omega (arith, x, q)) (f n a)

      turns : (n : ℕ) → n < length (in_loop b k around) → D (place + turns_at n (in_loop b k around)) (at_turn n (Turn l r))
      turns zero m = does_at place (place + 0) (Turn l r) (omega arith) turn
      turns (suc n) m =
          let y = further_long (b + k) around in
          let a : n < length around = omega arith in
          let x = further_turns (b + k) n around a in
          does_at (e + k + turns_at n around) (place + turns_at n (further (b + k) around)) (at_turn n r) (omega (arith, x, q)) (h n a)

  in_loop_long : (b k : ℕ) (around : List Around) (body : Block) → HandledBlock defs (suc (length around)) body
      → HandledBlock defs (length (in_loop b k around)) body
  in_loop_long b k around body h = subst (λ (n : ℕ). HandledBlock defs (suc n) body) (sym (further_long (b + k) around)) h

  mutual
    pub block_does : (b : Block) (around : List Around) → HandledBlock defs (length around) b → block_slots defs b ≤ size → (pc e : ℕ)
        → HasAt codes pc (block_code defs around b) → pc + length (block_code defs around b) ≡ e → (r : Block) → X e around r → D e r
        → D pc (join b r)
    block_does Done around h s pc e has q r x d = does_at e pc r (omega arith) d
    block_does (Then a b) around h s pc e has q r x d =
        let more = block_code defs around b in
        let this = stm_code defs around (length more) a in
        let n = length-append this more in
        stm_does a around (length more) h.0 (omega arith) pc (pc + length this) (has_front codes pc this more has) refl (join b r)
        (exits_join (length around) (pc + length this + length more) around b r h.1 (exits_at e (pc + length this + length more) around r
        (omega arith) x))
        (block_does b around h.1 (omega arith) (pc + length this) e (has_back codes pc this more has) (omega arith) r x d)
    block_does (Turn l b) around h s pc e has q r x d = absurd h
    block_does (Again l b) around h s pc e has q r x d = absurd h

    pub stm_does : (a : Stm) (around : List Around) (k : ℕ) → HandledStm defs (length around) a → stm_slots defs a ≤ size → (pc e : ℕ)
        → HasAt codes pc (stm_code defs around k a) → pc + length (stm_code defs around k a) ≡ e → (r : Block) → X (e + k) around r → D e r
        → D pc (Then a r)
    stm_does Over around k h s pc e has q r x d = over (does_at e pc r (omega arith) d)
    stm_does (Eval t) around k h s pc e has q r x d = evaluates (h, s) has (does_at e (pc + length (whole defs t)) r (sym q) d)
    stm_does (If t a b) around k h s pc e has q r x d =
        let other = block_code defs (further k around) b in
        let first = block_code defs (further (suc (length other) + k) around) a in
        let w = whole defs t in
        let front = w ++ (Unless (lower defs 0 t).value (suc (length first)) ∷ first) in
        let back = Jump (length other) ∷ other in
        let n1 = length-append w (Unless (lower defs 0 t).value (suc (length first)) ∷ first) in
        let n2 = length-append front back in
        let n3 = length-append w (Unless (lower defs 0 t).value (suc (length first)) ∷ []) in
        let has1 = has_front codes pc front back has in
        let has2 = has_back codes pc front back has in
        let has3 = has_back codes pc w (Unless (lower defs 0 t).value (suc (length first)) ∷ first) has1 in
        let at_first : ℕ = pc + length (test defs (Some t) (suc (length first))) in
        let end_first : ℕ = pc + length front in
        let m1 = further_long k around in
        let m2 = further_long (suc (length other) + k) around in
        chooses (suc (length first)) (h.0, omega arith)
        (has_more codes pc w (Unless (lower defs 0 t).value (suc (length first)) ∷ [])
        (has_front codes pc w (Unless (lower defs 0 t).value (suc (length first)) ∷ first) has1) (has3.0, tt))
        (block_does a (further (suc (length other) + k) around) (subst (λ (z : ℕ). HandledBlock defs z a) (sym m2) h.1) (omega arith)
        at_first
        end_first
        (subst (λ (z : ℕ). HasAt codes z first) (let z : suc (pc + length w) ≡ at_first = omega arith in z) has3.1) (omega arith)
        (Then Over r)
        (exits_further end_first (suc (length other) + k) around (Then Over r)
        (exits_over (end_first + (suc (length other) + k)) around r (exits_at (e + k) (end_first + (suc (length other) + k)) around r
        (omega arith) x)))
        (jumps (length other) has2.0 (does_at e (suc end_first + length other) r (omega arith) d)))
        (block_does b (further k around) (subst (λ (z : ℕ). HandledBlock defs z b) (sym m1) h.2) (omega arith)
        (at_first + suc (length first)) e
        (subst (λ (z : ℕ). HasAt codes z other) (let z : suc end_first ≡ at_first + suc (length first) = omega arith in z) has2.1)
        (omega arith) (Then Over r)
        (exits_further e k around (Then Over r) (exits_over (e + k) around r x)) (over d))
    stm_does (While t (Looping None n body)) around k h s pc e has q r x d = absurd h.0
    stm_does (While t (Looping (Some c) n body)) around k h s pc e has q r x d =
        let l : LoopIn = record { around = around; rest = k; condition = Some c; next = n; body = body } in
        let head = tested_head defs l in
        let bc = tested_body defs l in
        let nc = whole_if defs n in
        let n1 = length-append head ((bc ++ nc) ++ (Back (length head + length (bc ++ nc)) ∷ [])) in
        let n2 = length-append (bc ++ nc) (Back (length head + length (bc ++ nc)) ∷ []) in
        let n3 = length-append bc nc in
        let fin : e ≡ suc (tested_back defs pc l) = omega arith in
        subst (λ (z : Term). D pc (Then (While z (Looping (Some c) n body)) r)) (sym h.0)
        (tests pc l c refl (tested_at c refl h.1 (omega arith) (omega arith) (omega arith) has (does_at e (suc (tested_back defs pc l)) r
        fin d)
        (exits_at (e + k) (suc (tested_back defs pc l) + k) around r (omega arith) x)))
    stm_does (Enter (Looping c n body)) around k h s pc e has q r x d =
        let l : LoopIn = record { around = around; rest = k; condition = c; next = n; body = body } in
        let bc = entered_body defs l in
        let nc = whole_if defs n in
        let tc = test defs c 1 in
        let back = Back (length (bc ++ nc) + length tc) ∷ [] in
        let n1 = length-append (bc ++ nc) (tc ++ back) in
        let n2 = length-append tc back in
        let n3 = length-append bc nc in
        let end : ℕ = suc (entered_test defs pc l + length tc) in
        let fin : e ≡ end = omega arith in
        let at = entered_at {l = l} h (omega arith) (omega arith) (omega arith) has (does_at e end r fin d)
        (exits_at (e + k) (end + k) around r (omega arith) x) in
        let gap : ℕ = length nc + suc (length tc) in
        enters (block_does body (in_loop gap k around) (in_loop_long gap k around body h.2) (omega arith) pc (entered_turn defs pc l)
        (has_front codes pc bc nc (has_front codes pc (bc ++ nc) (tc ++ back) has)) refl (Turn (Looping c n body) r)
        (body_exits (entered_turn defs pc l) end gap k around (Looping c n body) r (omega arith) (does_at e end r fin d)
        (entered_turns pc l at)
        (exits_at (e + k) (end + k) around r (omega arith) x))
        (entered_turns pc l at))
    stm_does (Break n) around k h s pc e has q r (exits f g) d =
        breaks (k + leaves_at n around) has.0 (does_at (e + k + leaves_at n around) (suc pc + (k + leaves_at n around)) (behind n r)
        (omega arith) (f n h))
    stm_does (Continue n) around k h s pc e has q r (exits f g) d =
        continues (k + turns_at n around) has.0 (does_at (e + k + turns_at n around) (suc pc + (k + turns_at n around)) (at_turn n r)
        (omega arith) (g n h))
    stm_does (tree.Return t) around k h s pc e has q r x d = returns (h, s) has
    stm_does Leave around k h s pc e has q r x d = leaves has.0

  -- ---- loops, turn by turn

  -- The body of a loop that begins with its test.
  pub tested_enters : (start : ℕ) (l : LoopIn) (rest : Block) → TestedAt defs codes size start l rest
      → D (start + length (tested_head defs l)) (entered (loop_of l) rest)
  tested_enters start l rest (tested_at c ec h s1 s2 s3 has d x) =
      let head = tested_head defs l in
      let bc = tested_body defs l in
      let nc = whole_if defs l.next in
      let back = Back (length head + length (bc ++ nc)) ∷ [] in
      let at = tested_at c ec h s1 s2 s3 has d x in
      let gap : ℕ = suc (length nc) in
      block_does l.body (in_loop gap l.rest l.around) (in_loop_long gap l.rest l.around l.body h.2) s3 (start + length head)
      (tested_turn defs start l)
      (has_front codes (start + length head) bc nc (has_front codes (start + length head) (bc ++ nc) back
      (has_back codes start head ((bc ++ nc) ++ back) has)))
      refl (Turn (loop_of l) rest)
      (body_exits (tested_turn defs start l) (suc (tested_back defs start l)) gap l.rest l.around (loop_of l) rest (omega arith) d
      (tested_turns start l at) x)
      (tested_turns start l at)

  -- That of one that begins with its body.
  pub entered_enters : (start : ℕ) (l : LoopIn) (rest : Block) → EnteredAt defs codes size start l rest → D start (entered (loop_of l) rest)
  entered_enters start l rest (entered_at h s1 s2 s3 has d x) =
      let bc = entered_body defs l in
      let nc = whole_if defs l.next in
      let tc = test defs l.condition 1 in
      let back = Back (length (bc ++ nc) + length tc) ∷ [] in
      let at = entered_at h s1 s2 s3 has d x in
      let gap : ℕ = length nc + suc (length tc) in
      block_does l.body (in_loop gap l.rest l.around) (in_loop_long gap l.rest l.around l.body h.2) s3 start (entered_turn defs start l)
      (has_front codes start bc nc (has_front codes start (bc ++ nc) (tc ++ back) has)) refl (Turn (loop_of l) rest)
      (body_exits (entered_turn defs start l) (suc (entered_test defs start l + length tc)) gap l.rest l.around (loop_of l) rest
      (omega arith) d
      (entered_turns start l at) x)
      (entered_turns start l at)

  -- A function's body.
  pub body_does : (b : Block) → HandledBlock defs 0 b → block_slots defs b ≤ size → HasAt codes 0 (block_code defs [] b ++ Return None ∷ [])
      → D 0 (join b Done)
  body_does b h s has =
      let c = block_code defs [] b in
      block_does b [] h s 0 (0 + length c) (has_front codes 0 c (Return None ∷ []) has) refl Done
      (exits (λ (n : ℕ) (l : n < 0). absurd (omega arith)) (λ (n : ℕ) (l : n < 0). absurd (omega arith)))
      (ends (has_back codes 0 c (Return None ∷ []) has).0)
