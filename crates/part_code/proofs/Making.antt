-- How many bytes the arguments of calls and prints take, and the temporaries that they need.
use Rattle.std.proofs.Common.{◌≡◌, ℕ, suc, ◌+◌, ◌*◌, ◌≤◌, Bool, true, false, List, [], ◌∷◌, ◌++◌, length, map, Option, Some, None}
use Rattle.std.proofs.Common.{refl, ap, arith}
use Rattle.std.specs.Int.{next_multiple_of}
use Rattle.limbo_values.specs.declared.number.Kind.{Kind}
use Rattle.limbo_values.specs.declared.number.Kind.TheVariants as kind
use Rattle.limbo_typed.specs.declared.print.Piece.{Piece as Written}
use Rattle.slot_code.specs.Code as code
use Rattle.slot_code.specs.Code.{Spot, Temporary, Argument, In, Inst, Hand, Begin, Format, Function}
use Rattle.slot_code.specs.Layout.{end_of}
use Rattle.dis_objects.specs.Frames.{Callee, Calls, Prints, printed_kinds, parameters, argument_bytes, all_bytes, spot_count}
use Rattle.typed_lower.specs.Terms.{Part, first_put, all_put, made_ready, answered}
use Rattle.limbo_values.specs.Texts.{longest}
use Rattle.dis_objects.specs.Code.{format_text}
use Rattle.part_code.proofs.Held.{Held, held_both, held_none, held_one}
use Rattle.part_code.proofs.Fitting.{Fits, FitsValue, handed, temporary_count}

-- ---- bytes

-- Each takes eight bytes at most, from one multiple of eight to the next.
pub end_most : (from n : ℕ) (ks : List (Option Kind)) → from ≤ 8 * n → end_of from ks ≤ 8 * (n + length ks)
end_most from n [] l = omega (arith, l)
end_most from n (None ∷ ks) l =
    let h = end_most (next_multiple_of from 4 + 4) (suc n) ks (omega (arith, l)) in omega (arith, h)
end_most from n (Some kind.Byte ∷ ks) l =
    let h = end_most (next_multiple_of from 1 + 1) (suc n) ks (omega (arith, l)) in omega (arith, h)
end_most from n (Some kind.Int ∷ ks) l =
    let h = end_most (next_multiple_of from 4 + 4) (suc n) ks (omega (arith, l)) in omega (arith, h)
end_most from n (Some kind.Big ∷ ks) l =
    let h = end_most (next_multiple_of from 8 + 8) (suc n) ks (omega (arith, l)) in omega (arith, h)

pub call_bytes : (fs : List Function) (g : ℕ) (n : ℕ) → length (parameters fs (Calls g)) ≤ n → argument_bytes fs (Calls g) ≤ 8 * n
call_bytes fs g n l =
    let h = end_most 32 4 (parameters fs (Calls g)) (omega arith) in omega (arith, h, l)

many_mapped : (ks : List Kind) → length (map Some ks) ≡ length ks
many_mapped [] = refl
many_mapped (k ∷ ks) = ap suc (many_mapped ks)

pub print_bytes : (fs : List Function) (ps : List Written) (n : ℕ) → length (printed_kinds ps) ≡ n
    → argument_bytes fs (Prints ps) ≤ 8 * n + 4
print_bytes fs ps n e =
    let h = end_most 36 5 (map Some (printed_kinds ps)) (omega arith) in
    let l = many_mapped (printed_kinds ps) in
    omega (arith, h, l, e)

module _ (fs : List Function) where
  -- Each of these has no more nodes than this.
  abbrev pub AllBelow : ℕ → List Part → Type 0
  AllBelow b [] = Unit {0}
  AllBelow b (p ∷ ps) = ((w : ℕ) × Fits fs w p × (w ≤ b)) × AllBelow b ps

  value_below : (b : ℕ) (p : Part) → (w : ℕ) × Fits fs w p × (w ≤ b) → FitsValue fs b p.value
  value_below b p h cs d s T L l t a = let z = h.2 in h.1.value cs d s T L (omega (arith, l, z)) t (omega (arith, a, z))

  put_all : (T L : ℕ) (cs : List Callee) (d b i : ℕ) (ps : List Part) → AllBelow b ps → d + b ≤ T → 1 ≤ b → all_bytes fs cs + 8 * b ≤ L + 8
      → Held fs T L cs cs (all_put i ps d)
  put_all T L cs d b i [] h l s a = held_none fs T L cs (omega (arith, a, s))
  put_all T L cs d b i (p ∷ ps) h l s a =
      held_both fs T L cs cs cs (p.value d (Argument p.kind i)) (all_put (suc i) ps d)
      (value_below b p h.0 cs d (Argument p.kind i) T L (omega (arith, l)) (λ k. omega arith) a) (put_all T L cs d b (suc i) ps h.1 l s a)

  put_first : (T L : ℕ) (c : Bool) (cs : List Callee) (to : Callee) (begin : Inst) (d b : ℕ) (p : Part)
      → Held fs T L cs (to ∷ cs) (begin ∷ []) → (w : ℕ) × Fits fs w p × (w ≤ b) → d + b ≤ T → 1 ≤ b → all_bytes fs (to ∷ cs) + 8 * b ≤ L + 8
      → Held fs T L cs (to ∷ cs) (first_put c p begin d)
  put_first T L true cs to begin d b p o h l s a =
      let i = Hand (Argument p.kind 0) (In (Temporary p.kind d)) in
      let t : (k : Kind) → spot_count k (Temporary p.kind d) ≤ T = λ k. temporary_count k p.kind d T (omega (arith, l, s)) in
      held_both fs T L cs cs (to ∷ cs) (p.value (suc d) (Temporary p.kind d)) (begin ∷ i ∷ [])
      (value_below b p h cs (suc d) (Temporary p.kind d) T L (omega (arith, l)) t (omega (arith, a)))
      (held_both fs T L cs (to ∷ cs) (to ∷ cs) (begin ∷ []) (i ∷ []) o
      (handed fs T L (to ∷ cs) (Argument p.kind 0) (In (Temporary p.kind d)) (λ k. omega arith) t (omega (arith, a, s))))
  put_first T L false cs to begin d b p o h l s a =
      held_both fs T L cs (to ∷ cs) (to ∷ cs) (begin ∷ []) (p.value d (Argument p.kind 0)) o
      (value_below b p h (to ∷ cs) d (Argument p.kind 0) T L (omega (arith, l)) (λ k. omega arith) a)

  made_held : (T L : ℕ) (cs : List Callee) (to : Callee) (begin : Inst) (d b : ℕ) (ps : List Part) → Held fs T L cs (to ∷ cs) (begin ∷ [])
      → AllBelow b ps → (1 ≤ length ps → d + b ≤ T) → 1 ≤ b → all_bytes fs (to ∷ cs) + 8 * b ≤ L + 8
      → Held fs T L cs (to ∷ cs) (made_ready begin ps d)
  made_held T L cs to begin d b [] o h l s a = o
  made_held T L cs to begin d b (p ∷ ps) o h l s a =
      held_both fs T L cs (to ∷ cs) (to ∷ cs) (first_put p.calls p begin d) (all_put 1 ps d)
      (put_first T L p.calls cs to begin d b p o h.0 (l (omega arith)) s a) (put_all T L (to ∷ cs) d b 1 ps h.1 (l (omega arith)) s a)

  -- A call whose arguments have so many nodes in all, of so many each at most.
  pub call_fits : (g : ℕ) (k : Kind) (n w b : ℕ) (ps : List Part) → AllBelow b ps → length ps ≡ n → 1 ≤ b → b + n ≤ suc w
      → argument_bytes fs (Calls g) ≤ 8 * n
      → FitsValue fs (suc w) (λ d s. made_ready (Begin g) ps d ++ code.Call k g n s ∷ [])
  call_fits g k n w b ps h y s e m cs d z T L l t a =
      let in_all : all_bytes fs (Calls g ∷ cs) + 8 * b ≤ L + 8 = omega (arith, a, e, m) in
      let here : all_bytes fs cs ≤ L = omega (arith, a) in
      let there : all_bytes fs (Calls g ∷ cs) ≤ L = omega (arith, in_all, s) in
      held_both fs T L cs (Calls g ∷ cs) cs (made_ready (Begin g) ps d) (code.Call k g n z ∷ [])
      (made_held T L cs (Calls g) (Begin g) d b ps (held_one fs T L cs (Begin g) tt (λ j. omega arith) here there) h
      (λ q. omega (arith, l, e, s, y, q)) s
      in_all)
      (held_one fs T L (Calls g ∷ cs) (code.Call k g n z) tt t there here)

  pub print_fits : (pieces : List Written) (n w b : ℕ) (ps : List Part) → AllBelow b ps → 1 ≤ b → b + n ≤ suc (suc w)
      → argument_bytes fs (Prints pieces) ≤ 8 * n + 4 → length (format_text pieces) ≤ longest
      → FitsValue fs (suc (suc (suc w))) (λ d s. made_ready (Format pieces) ps d ++ answered n d s)
  print_fits pieces n w b ps h s e m good cs d z T L l t a =
      let in_all : all_bytes fs (Prints pieces ∷ cs) + 8 * b ≤ L + 8 = omega (arith, a, e, m) in
      let here : all_bytes fs cs ≤ L = omega (arith, a) in
      let there : all_bytes fs (Prints pieces ∷ cs) ≤ L = omega (arith, in_all, s) in
      let i = code.Print n (Temporary kind.Int d) in
      let j = Hand z (In (Temporary kind.Int d)) in
      let q : (k : Kind) → spot_count k (Temporary kind.Int d) ≤ T = λ k. temporary_count k kind.Int d T (omega (arith, l)) in
      held_both fs T L cs (Prints pieces ∷ cs) cs (made_ready (Format pieces) ps d) (i ∷ j ∷ [])
      (made_held T L cs (Prints pieces) (Format pieces) d b ps (held_one fs T L cs (Format pieces) good (λ k. omega arith) here there) h
      (λ q. omega (arith, l, e, s)) s in_all)
      (held_both fs T L (Prints pieces ∷ cs) cs cs (i ∷ []) (j ∷ []) (held_one fs T L (Prints pieces ∷ cs) i tt q there here)
      (handed fs T L cs z (In (Temporary kind.Int d)) t q here))
