-- Words stay accounted for while the inner blocks that they reach stay; and lists of words are accounted for together exactly where each
-- is.
use Rattle.std.proofs.Common.{◌≡◌, ℕ, ◌<◌, List, [], ◌∷◌, ◌++◌, inl, inr, Some, refl, sym, subst, ◌∙◌}
use Rattle.heap_model.specs.Heap.{Heap, at}
use Rattle.heap_model.specs.Facts.{Chars, Carrier, IsFree, IsInner, Free, Inner, Covers, refers, chars}
use Rattle.heap_model.proofs.Alike.{Known, is_named, is_text, is_part, is_free, is_carrier, known, is_inner}
use Rattle.heap_model.proofs.Settle.{refers_grows}
use Rattle.limbo_layout.specs.Adts.{Has}
use Rattle.dis_meaning.specs.Words.{Word}
use Rattle.dis_memory.specs.Blocks.{Block, words_in}
use Rattle.value_words.specs.Facts.{Facts, Grows}
use Rattle.value_roots.specs.Accounts.{Accounted, a_number, an_address, to_nothing, to_value, to_inner, AllAccounted, none, more}
use Rattle.value_roots.specs.Accounts.{LeadTo, it, through, InnerOf, near, far}
use Rattle.value_roots.proofs.Words.{has_first, has_second}

-- more words reach more
inner_more : (k : Facts) (x : Heap Block) (ws us : List Word) (b : ℕ) → ((w : Word) → Has ws w → Has us w)
    → InnerOf k x ws b → InnerOf k x us b
inner_more k x ws us b has (near _ _ h inner) = near us b (has _ h) inner
inner_more k x ws us b has (far _ _ c block h inner e i) = far us b c block (has _ h) inner e i

module _ (k k' : Facts) (i : ℕ) (x x' : Heap Block) (names names' : ℕ → ℕ) (grows : Grows k k')
    (named : (m : ℕ) → 0 < names m → 0 < names' m) where
  covers_later : (b : ℕ) → Covers k (λ m. 0 < names m) b → Covers k' (λ m. 0 < names' m) b
  covers_later b (refers m n r) = refers m (named m n) (refers_grows k k' m b grows r)
  covers_later b (chars t e) = chars t (grows.facts b (Chars t) e)

  -- the inner block of a word stays, each what it is
  record IsKept (b : ℕ) : Type 0 where
    place : at x' b ≡ at x b
    inner : Inner k' b
    mine : (Free k b → k.maker b ≡ Some i) → Free k' b → k'.maker b ≡ Some i

  abbrev FreesStay : (ℕ → Type 0) → Type 0
  FreesStay some = (b : ℕ) → some b → Free k b → Free k' b × (at x' b ≡ at x b)

  abbrev CarriersStay : (ℕ → Type 0) → Type 0
  CarriersStay some = (b : ℕ) (d : Block) → some b → k.fact b ≡ Some (Carrier d) → at x' b ≡ at x b

  kept : (some : ℕ → Type 0) (b : ℕ) → FreesStay some → CarriersStay some → some b → Inner k b → IsKept b
  kept some b frees carriers s inner = go (known k b)
    where
      go : Known k b → IsKept b
      go (is_named m e) = absurd (subst IsInner e inner)
      go (is_text t e) = absurd (subst IsInner e inner)
      go (is_part m st l e) = absurd (subst IsInner e inner)
      go (is_free f) =
          let r = frees b s f in
          record { place = r.1; inner = is_inner (k'.fact b) r.0; mine = λ maker g. grows.makers b i (maker f) }
      go (is_carrier d e) =
          let e' = grows.facts b (Carrier d) e in
          record { place = carriers b d s e; inner = subst IsInner (sym e') tt; mine = λ maker g. absurd (subst IsFree e' g) }

  module _ (some : ℕ → Type 0) (frees : FreesStay some) (carriers : CarriersStay some) where
    mutual
      one_later : (w : Word) → Accounted k i x names w → ((b : ℕ) → InnerOf k x (w ∷ []) b → some b) → Accounted k' i x' names' w
      one_later _ (a_number z) reach = a_number z
      one_later _ (an_address p a) reach = an_address p a
      one_later _ to_nothing reach = to_nothing
      one_later _ (to_value b c) reach = to_value b (covers_later b c)
      one_later _ (to_inner b block inner e mine all) reach =
          let s = kept some b frees carriers (reach b (near _ b (inl refl) inner)) inner in
          to_inner b block s.inner (s.place ∙ e) (s.mine mine)
          (all_later (words_in block) all (λ c u. reach c (far _ c b block (inl refl) inner e u)))

      all_later : (ws : List Word) → AllAccounted k i x names ws → ((b : ℕ) → InnerOf k x ws b → some b) → AllAccounted k' i x' names' ws
      all_later _ none reach = none
      all_later _ (more w ws a each) reach =
          more w ws
          (one_later w a (λ b u. reach b (inner_more k x (w ∷ []) (w ∷ ws) b (λ v h. elim h [ inl e ↦ inl e | inr n ↦ absurd n ]) u)))
          (all_later ws each (λ b u. reach b (inner_more k x ws (w ∷ ws) b (λ v h. inr h) u)))

  pub later : (ws : List Word) → FreesStay (InnerOf k x ws) → CarriersStay (InnerOf k x ws) → AllAccounted k i x names ws
      → AllAccounted k' i x' names' ws
  later ws frees carriers each = all_later (InnerOf k x ws) frees carriers ws each (λ b u. u)

-- ---- lists of words, together and each

pub several : (k : Facts) (i : ℕ) (x : Heap Block) (names : ℕ → ℕ) (us ws : List Word) → AllAccounted k i x names us
    → AllAccounted k i x names ws → AllAccounted k i x names (us ++ ws)
several k i x names _ ws none bs = bs
several k i x names _ ws (more u us a each) bs = more u (us ++ ws) a (several k i x names us ws each bs)

pub first_accounted : (k : Facts) (i : ℕ) (x : Heap Block) (names : ℕ → ℕ) (us ws : List Word) → AllAccounted k i x names (us ++ ws)
    → AllAccounted k i x names us
first_accounted k i x names [] ws both = none
first_accounted k i x names (u ∷ us) ws (more _ _ a each) = more u us a (first_accounted k i x names us ws each)

pub second_accounted : (k : Facts) (i : ℕ) (x : Heap Block) (names : ℕ → ℕ) (us ws : List Word) → AllAccounted k i x names (us ++ ws)
    → AllAccounted k i x names ws
second_accounted k i x names [] ws both = both
second_accounted k i x names (u ∷ us) ws (more _ _ a each) = second_accounted k i x names us ws each

leads_more : (k : Facts) (x : Heap Block) (m : ℕ) (ws us : List Word) → ((w : Word) → Has ws w → Has us w)
    → LeadTo k x m ws → LeadTo k x m us
leads_more k x m ws us has (it _ b h r) = it us b (has _ h) r
leads_more k x m ws us has (through _ b block h inner e l) = through us b block (has _ h) inner e l

pub first_leads : (k : Facts) (x : Heap Block) (m : ℕ) (us ws : List Word) → LeadTo k x m us → LeadTo k x m (us ++ ws)
first_leads k x m us ws l = leads_more k x m us (us ++ ws) (λ w h. has_first us ws w h) l

pub second_leads : (k : Facts) (x : Heap Block) (m : ℕ) (us ws : List Word) → LeadTo k x m ws → LeadTo k x m (us ++ ws)
second_leads k x m us ws l = leads_more k x m ws (us ++ ws) (λ w h. has_second us ws w h) l

pub first_reaches : (k : Facts) (x : Heap Block) (b : ℕ) (us ws : List Word) → InnerOf k x us b → InnerOf k x (us ++ ws) b
first_reaches k x b us ws r = inner_more k x us (us ++ ws) b (λ w h. has_first us ws w h) r

pub second_reaches : (k : Facts) (x : Heap Block) (b : ℕ) (us ws : List Word) → InnerOf k x ws b → InnerOf k x (us ++ ws) b
second_reaches k x b us ws r = inner_more k x ws (us ++ ws) b (λ w h. has_second us ws w h) r
