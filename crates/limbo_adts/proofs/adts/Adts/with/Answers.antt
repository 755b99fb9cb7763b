use Rattle.std.proofs.Common.{◌≡◌, ℕ, ◌+◌, ◌<◌, ◌⊎◌, inl, inr, ◌++◌, ◌∷◌, [], List, Result, Ok, Err, map, length, sym, ap, subst, ◌∙◌, arith}
use Rattle.std.specs.Result.{IfOk, IfErr}
use Rattle.std.proofs.lemmas.List.{length-append, length-map, map-append}
use Rattle.std.proofs.lemmas.Result.{IfOk-weaker}
use Rattle.limbo_types.specs.Types.{Adt}
use Rattle.limbo_layout.specs.declared.def.AdtDef as code_def
use Rattle.limbo_layout.specs.Layout.{Fits}
use Rattle.limbo_layout.specs.Adts.{Def}
use Rattle.limbo_layout.specs.Laying.{AreLaid, room_at}
use Rattle.limbo_layout.specs.View.{view_def, view_defs}
use Rattle.limbo_layout.specs.declared.def.AdtsFault.{AdtsFault}
use Rattle.limbo_layout.specs.declared.def.AdtsFault.TheVariants.{TooLarge}
use Rattle.limbo_layout.specs.Layout.{Room}
use Rattle.limbo_adts.specs.Table.{Table}
use Rattle.limbo_adts.proofs.Staying.{layout_stays}
use Rattle.limbo_adts.proofs.adts.Adts.with.Goals as goal

pub returns-clause-fits : goal.returns-clause-fits
returns-clause-fits c =
    let more : List code_def.AdtDef = c.args.self.adts ++ (c.args.def ∷ []) in
    let e : c.push.new.self.items ≡ more = c.in_ok-push.ensures.items ∙ ap (λ (t : Table). t.adts ++ (c.args.def ∷ [])) c.self.view_is in
    let l : length more ≡ length c.args.self.adts + 1 = simp length-append (omega arith) in
    let f : IfOk c.new.result (λ _. (n : ℕ) → n < length more → Fits (view_defs more) (Adt n)) =
    subst (λ (z : List code_def.AdtDef). IfOk c.new.result (λ _. (n : ℕ) → n < length z → Fits (view_defs z) (Adt n))) e c.new.ensures.fits in
    IfOk-weaker c.new.result (λ _. (n : ℕ) → n < length more → Fits (view_defs more) (Adt n)) _ (λ x k n h. k n (omega arith)) f

-- an adt that had its room has it where one more stands behind
still_fits :
    (old : List code_def.AdtDef) (rooms : List Room) (def : code_def.AdtDef) (n : ℕ) → AreLaid (view_defs old) rooms → n < length old
    → Fits (view_defs (old ++ (def ∷ []))) (Adt n)
still_fits old rooms def n a l =
    let m : length (view_defs old) ≡ length old = length-map old view_def in
    let i = a.each n (omega arith) in
    let e : view_defs old ++ view_defs (def ∷ []) ≡ view_defs (old ++ (def ∷ [])) = sym (map-append view_def old (def ∷ [])) in
    subst (λ (z : List Def). Fits z (Adt n)) e
    (room_at rooms n, layout_stays (view_defs old) (view_defs (def ∷ [])) (Adt n) (room_at rooms n) i.laid, i.fits)

at_or : (n m : ℕ) → n < m + 1 → (n < m) ⊎ (n ≡ m)
at_or n m h = grind arith

-- where only what is new may be refused, it is that
the_last :
    {T : Type 0} (r : Result T AdtsFault) (count : ℕ) (Bad : ℕ → Type 0) → ((n : ℕ) → n < count → Bad n → ⊥)
    → IfErr r (λ e. (n : ℕ) → e ≡ TooLarge n → n < count + 1) → IfErr r (λ e. (n : ℕ) → e ≡ TooLarge n → Bad n)
    → IfErr r (λ e. (n : ℕ) → e ≡ TooLarge n → n ≡ count)
the_last (Ok x) count Bad k h b = tt
the_last (Err f) count Bad k h b = λ n e. elim (at_or n count (h n e)) [
  | inl l ↦ absurd (k n l (b n e))
  | inr s ↦ s
]

pub returns-clause-last : goal.returns-clause-last
returns-clause-last c =
    let old : List code_def.AdtDef = c.self.inside.defs.items in
    let more : List code_def.AdtDef = c.push.new.self.items in
    let p : more ≡ old ++ (c.args.def ∷ []) = c.in_ok-push.ensures.items in
    let l : length old ≡ length c.args.self.adts = ap (λ (t : Table). length t.adts) c.self.view_is in
    let m : length more ≡ length old + 1 = ap length p ∙ length-append old (c.args.def ∷ []) in
    let k : (n : ℕ) → n < length old → (Fits (view_defs more) (Adt n) → ⊥) → ⊥ =
    λ n h bad. bad (subst (λ (z : List code_def.AdtDef). Fits (view_defs z) (Adt n)) (sym p) (still_fits old c.self.inside.rooms.items c.args.def n c.self.invariant.laid h)) in
    let t : IfErr c.new.result (λ e. (n : ℕ) → e ≡ TooLarge n → n < length old + 1) = rw m at c.new.ensures.there in
    rw l at (the_last c.new.result (length old) (λ n. Fits (view_defs more) (Adt n) → ⊥) k t c.new.ensures.too_large)
