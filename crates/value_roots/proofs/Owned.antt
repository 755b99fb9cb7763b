-- What words that are accounted for hold: what they and the inner blocks behind them refer to.
use Rattle.std.proofs.Common.{◌≡◌, ℕ, ◌+◌, ◌<◌, ◌≤◌, true, List, ◌∷◌, ◌⊎◌, inl, inr, Some, refl, sym, ap, subst, ◌∙◌, arith}
use Rattle.heap_model.specs.Kept.{IsClosed}
use Rattle.heap_model.specs.Heap.{Heap, at, there, in_one, graph}
use Rattle.heap_model.specs.Facts.{Free, Inner, Refers, Covers}
use Rattle.heap_model.specs.Alike.{Chain, word, next, Holds}
use Rattle.heap_model.proofs.Alike.{is_inner, covers_not_inner}
use Rattle.limbo_layout.specs.Adts.{Has}
use Rattle.dis_meaning.specs.Words.{Word, Refer}
use Rattle.dis_meaning.specs.Counts.{refers, in_words}
use Rattle.dis_memory.specs.Blocks.{Block, words_in}
use Rattle.dis_memory.specs.Naming.{inside}
use Rattle.value_words.specs.Facts.{Facts}
use Rattle.value_roots.specs.Accounts.{Accounted, a_number, an_address, to_nothing, to_value, to_inner, AllAccounted, none, more}
use Rattle.value_roots.specs.Accounts.{LeadTo, it, through}
use Rattle.value_roots.proofs.Words.{either, refers_same, refers_it, has_counts}

module _ (k : Facts) (i : ℕ) (x : Heap Block) (names : ℕ → ℕ) where
  abbrev Account : Word → Type 0
  Account w = Accounted k i x names w

  abbrev Accounts : List Word → Type 0
  Accounts ws = AllAccounted k i x names ws

  abbrev Named : ℕ → Type 0
  Named m = 0 < names m

  -- How often a block is referred to by a word, and by all words behind it.
  abbrev mutual
    pub own_one : (w : Word) → Accounted k i x names w → ℕ → ℕ
    own_one _ (a_number z) n = 0
    own_one _ (an_address p a) n = 0
    own_one _ to_nothing n = 0
    own_one _ (to_value b c) n = refers n (Refer (Some b))
    own_one _ (to_inner b block inner e mine all) n = refers n (Refer (Some b)) + own_all (words_in block) all n

    pub own_all : (ws : List Word) → AllAccounted k i x names ws → ℕ → ℕ
    own_all _ none n = 0
    own_all _ (more w ws a each) n = own_one w a n + own_all ws each n

  one_least : (w : Word) (a : Account w) (n : ℕ) → refers n w ≤ own_one w a n
  one_least _ (a_number z) n = omega arith
  one_least _ (an_address p a) n = omega arith
  one_least _ to_nothing n = omega arith
  one_least _ (to_value b c) n = omega arith
  one_least _ (to_inner b block inner e mine all) n = omega arith

  all_least : (ws : List Word) (each : Accounts ws) (n : ℕ) → in_words n ws ≤ own_all ws each n
  all_least _ none n = omega arith
  all_least _ (more w ws a each) n = let h = one_least w a n in let t = all_least ws each n in omega arith

  -- what an inner block refers to
  uses : (b : ℕ) (block : Block) (n : ℕ) → at x b ≡ Some block → in_one inside (at x b) n ≡ in_words n (words_in block)
  uses b block n e = ap (λ o. in_one inside o n) e

  -- ---- each is reached from the words

  module _ (words : ℕ → ℕ) where
    abbrev Way : ℕ → Type 0
    Way q = Chain k (graph inside x) words q

    onward : (b : ℕ) (block : Block) (q : ℕ) → at x b ≡ Some block → Inner k b → Way b → 0 < in_words q (words_in block) → Way q
    onward b block q e inner way u = next way inner (ap there e) (subst (λ n. 0 < n) (sym (uses b block q e)) u)

    mutual
      one_way : (w : Word) (a : Accounted k i x names w) → ((q : ℕ) → 0 < refers q w → Way q) → (q : ℕ) → 0 < own_one w a q → Way q
      one_way _ (a_number z) reach q p = absurd (omega (arith, p))
      one_way _ (an_address h a) reach q p = absurd (omega (arith, p))
      one_way _ to_nothing reach q p = absurd (omega (arith, p))
      one_way _ (to_value b c) reach q p = reach q p
      one_way _ (to_inner b block inner e mine all) reach q p =
          elim (either (refers q (Refer (Some b))) (own_all (words_in block) all q) p) [
            | inl r ↦ reach q r
            | inr r ↦ all_way (words_in block) all (λ n u. onward b block n e inner (reach b (refers_it b)) u) q r
          ]

      all_way : (ws : List Word) (each : AllAccounted k i x names ws) → ((q : ℕ) → 0 < in_words q ws → Way q) → (q : ℕ)
          → 0 < own_all ws each q → Way q
      all_way _ none reach q p = absurd (omega (arith, p))
      all_way _ (more w ws a each) reach q p = elim (either (own_one w a q) (own_all ws each q) p) [
        | inl r ↦ one_way w a (λ n u. reach n (omega (arith, u))) q r
        | inr r ↦ all_way ws each (λ n u. reach n (omega (arith, u))) q r
      ]

    -- and is there, where no reference names a block that isn't there
    way_live : IsClosed (graph inside x) → ((q : ℕ) → 0 < words q → there (at x q) ≡ true) → (q : ℕ) → Way q → there (at x q) ≡ true
    way_live closed live q (word p) = live q p
    way_live closed live q (next {a = a} way inner there u) = closed.closed a q there u

  -- ---- what an inner block among them refers to is among them

  mutual
    one_within : (w : Word) (a : Accounted k i x names w) (q n : ℕ) → 0 < own_one w a q → Inner k q
        → 0 < in_one inside (at x q) n → 0 < own_one w a n
    one_within _ (a_number z) q n p f u = absurd (omega (arith, p))
    one_within _ (an_address h a) q n p f u = absurd (omega (arith, p))
    one_within _ to_nothing q n p f u = absurd (omega (arith, p))
    one_within _ (to_value b c) q n p f u = absurd (covers_not_inner k Named b (subst (λ m. Inner k m) (sym (refers_same q b p)) f) c)
    one_within _ (to_inner b block inner e mine all) q n p f u =
        elim (either (refers q (Refer (Some b))) (own_all (words_in block) all q) p) [
          | inl r ↦
              let used : 0 < in_one inside (at x b) n = subst (λ m. 0 < in_one inside (at x m) n) (sym (refers_same q b r)) u in
              let here : 0 < in_words n (words_in block) = subst (λ m. 0 < m) (uses b block n e) used in
              let least = all_least (words_in block) all n in
              omega arith
          | inr r ↦ let behind = all_within (words_in block) all q n r f u in omega arith
        ]

    all_within : (ws : List Word) (each : AllAccounted k i x names ws) (q n : ℕ) → 0 < own_all ws each q → Inner k q
        → 0 < in_one inside (at x q) n → 0 < own_all ws each n
    all_within _ none q n p f u = absurd (omega (arith, p))
    all_within _ (more w ws a each) q n p f u = elim (either (own_one w a q) (own_all ws each q) p) [
      | inl r ↦ let h = one_within w a q n r f u in omega arith
      | inr r ↦ let h = all_within ws each q n r f u in omega arith
    ]

  -- ---- each is inner, and the process's own where it stands for nothing, or a value that is named, or a text

  record IsFor (q : ℕ) : Type 0 where
    covers : Inner k q ⊎ Covers k Named q
    mine : Free k q → k.maker q ≡ Some i

  for_value : (b : ℕ) → Covers k Named b → IsFor b
  for_value b c = record { covers = inr c; mine = λ f. absurd (covers_not_inner k Named b (is_inner (k.fact b) f) c) }

  mutual
    one_for : (w : Word) (a : Accounted k i x names w) (q : ℕ) → 0 < own_one w a q → IsFor q
    one_for _ (a_number z) q p = absurd (omega (arith, p))
    one_for _ (an_address h a) q p = absurd (omega (arith, p))
    one_for _ to_nothing q p = absurd (omega (arith, p))
    one_for _ (to_value b c) q p = subst (λ n. IsFor n) (refers_same q b p) (for_value b c)
    one_for _ (to_inner b block inner e mine all) q p =
        elim (either (refers q (Refer (Some b))) (own_all (words_in block) all q) p) [
          | inl r ↦ subst (λ n. IsFor n) (refers_same q b r) (record { covers = inl inner; mine = mine })
          | inr r ↦ all_for (words_in block) all q r
        ]

    all_for : (ws : List Word) (each : AllAccounted k i x names ws) (q : ℕ) → 0 < own_all ws each q → IsFor q
    all_for _ none q p = absurd (omega (arith, p))
    all_for _ (more w ws a each) q p = elim (either (own_one w a q) (own_all ws each q) p) [
      | inl r ↦ one_for w a q r
      | inr r ↦ all_for ws each q r
    ]

  -- ---- where the words lead to a value, one of these refers to it

  record IsOwned (m : ℕ) (ws : List Word) (each : Accounts ws) : Type 0 where
    block : ℕ
    owned : 0 < own_all ws each block
    is : Refers k m block

  -- the account of one of the words
  record IsAccount (ws : List Word) (each : Accounts ws) (w : Word) : Type 0 where
    account : Account w
    counts : (n : ℕ) → own_one w account n ≤ own_all ws each n

  account_of : (ws : List Word) (each : Accounts ws) (w : Word) → Has ws w → IsAccount ws each w
  account_of _ none w h = absurd h
  account_of _ (more v ws a each) w (inl e) =
      subst (λ u. IsAccount (v ∷ ws) (more v ws a each) u) e (record { account = a; counts = λ n. omega arith })
  account_of _ (more v ws a each) w (inr h) =
      let r = account_of ws each w h in record { account = r.account; counts = λ n. let c = r.counts n in omega arith }

  -- what the account of an inner block owns, where the words of that block lead somewhere
  inner_owns : (m b : ℕ) (block : Block) (a : Account (Refer (Some b))) → Inner k b → at x b ≡ Some block
      → ((each : Accounts (words_in block)) → IsOwned m (words_in block) each)
      → (q : ℕ) × (0 < own_one (Refer (Some b)) a q) × Refers k m q
  inner_owns m b block (to_value _ c) inner e lead = absurd (covers_not_inner k Named b inner c)
  inner_owns m b block (to_inner _ other _ f mine all) inner e lead =
      let same : block ≡ other = let z : Some block ≡ Some other = sym e ∙ f in cc in
      let o = subst (λ c. (each : Accounts (words_in c)) → IsOwned m (words_in c) each) same lead all in
      (o.block, (let p = o.owned in omega arith), o.is)

  leads_owned : (m : ℕ) (ws : List Word) → LeadTo k x m ws → (each : Accounts ws) → IsOwned m ws each
  leads_owned m _ (it ws b h r) each =
      record { block = b; owned = (let c = has_counts ws b h in let l = all_least ws each b in omega arith); is = r }
  leads_owned m _ (through ws b block h inner e lead) each =
      let a = account_of ws each (Refer (Some b)) h in
      let o = inner_owns m b block a.account inner e (λ all. leads_owned m (words_in block) lead all) in
      record { block = o.0; owned = (let p = o.1 in let c = a.counts o.0 in omega arith); is = o.2 }

  -- ---- so the words hold what is named

  pub roots : (ws : List Word) → AllAccounted k i x names ws → ((m : ℕ) → 0 < names m → LeadTo k x m ws)
      → IsClosed (graph inside x) → ((q : ℕ) → 0 < in_words q ws → there (at x q) ≡ true)
      → Holds k (λ j. j ≡ i) (graph inside x) names (λ q. in_words q ws)
  roots ws each leads closed live = record {
    same = record {
      own = own_all ws each;
      roots = λ q p. let l = all_least ws each q in omega arith;
      live = λ q p. way_live (λ n. in_words n ws) closed live q (all_way (λ n. in_words n ws) ws each (λ n u. word u) q p);
      way = λ q p. all_way (λ n. in_words n ws) ws each (λ n u. word u) q p;
      within = λ q r p f u. all_within ws each q r p f u;
      covers = λ q p. (all_for ws each q p).covers;
      to = λ m p. let o = leads_owned m ws (leads m p) each in (o.block, o.owned, o.is);
    };
    mine = λ q p f. (i, refl, (all_for ws each q p).mine f);
  }
