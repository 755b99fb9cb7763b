-- Left sides: those whose places are sound, and for which values.
use Rattle.std.proofs.Common.{◌≡◌, inl, inr, ℕ, List, refl, sym, subst, ◌∙◌}
use Rattle.std.specs.Prelude.{length}
use Rattle.limbo_types.specs.Types.{Ty, Tys, Tuple, RefAdt, RefPick, NoTys, MoreTys}
use Rattle.limbo_layout.specs.Adts.{AllName, listed}
use Rattle.limbo_typed.specs.Typed.{Place, At, Pattern, ToPlace, ToNothing, ToParts, Patterns, NoPatterns, MorePatterns, Module, Var}
use Rattle.limbo_typed.specs.Fitting.{Stands}
use Rattle.limbo_typed.specs.Sound.{type_at, AllSettled, IsNamed, SoundPlace, SoundPattern, SoundPatterns}
use Rattle.limbo_assigning.specs.Assigning as assigning
use Rattle.limbo_assigning.specs.Assigning.{Asks, AskEach, Takes, TakeEach}
use Rattle.limbo_typed_sound.proofs.Ready.{HasNames}

pub stands_on : (t u w : Ty) → Stands t u → Stands u w → Stands t w
stands_on t u w (inl e) k = subst (λ (z : Ty). Stands z w) (sym e) k
stands_on (RefPick n v) u w (inr e) k = go (subst (λ (z : Ty). Stands z w) e k)
  where
    go : Stands (RefAdt n) w → Stands (RefPick n v) w
    go (inl q) = inr (sym q)
    go (inr q) = absurd q
stands_on _ u w (inr e) k = absurd e

no_tuple : (n : ℕ) (ts : Tys) → RefAdt n ≡ Tuple ts → ⊥
no_tuple n ts e = absurd cc

module _ (m : Module) (vs : List Var) where
  -- Its places are sound.
  abbrev mutual
    pub ReadyPattern : Pattern → Type 0
    ReadyPattern (ToPlace p) = SoundPlace m vs p
    ReadyPattern ToNothing = Unit {0}
    ReadyPattern (ToParts ps) = ReadyPatterns ps

    pub ReadyPatterns : Patterns → Type 0
    ReadyPatterns NoPatterns = Unit {0}
    ReadyPatterns (MorePatterns p ps) = ReadyPattern p × ReadyPatterns ps

  pub place_named : (p : Place) → SoundPlace m vs p → IsNamed m (type_at p)
  place_named (At t n) s = s.0

  -- ---- for the values that it takes

  mutual
    pub takes_sound : (p : Pattern) (t : Ty) → Takes p t → ReadyPattern p → SoundPattern m vs p t
    takes_sound (ToPlace p) t h r = (r, h)
    takes_sound ToNothing t h r = tt
    takes_sound (ToParts ps) (Tuple ts) h r = (ts, refl, take_each_sound ps ts h r)
    takes_sound (ToParts ps) _ h r = absurd h

    take_each_sound : (ps : Patterns) (ts : Tys) → TakeEach ps ts → ReadyPatterns ps → SoundPatterns m vs ps (listed ts)
    take_each_sound NoPatterns NoTys h r = tt
    take_each_sound (MorePatterns p ps) (MoreTys t ts) h r = (takes_sound p t h.0 r.0, take_each_sound ps ts h.1 r.1)
    take_each_sound NoPatterns (MoreTys t ts) h r = absurd h
    take_each_sound (MorePatterns p ps) NoTys h r = absurd h

  -- ---- for those that it asks

  mutual
    pub asks_named : (p : Pattern) (t u : Ty) → Asks p t u → HasNames m t → ReadyPattern p → IsNamed m u
    asks_named _ _ _ (assigning.its_own p t s h) n r = (n, s)
    asks_named _ _ _ (assigning.the_places p t h) n r = place_named p r
    asks_named _ _ _ (assigning.Asks.nowhere t s) n r = (n, s)
    asks_named _ _ _ (assigning.Asks.parts ps ts us h) n r = ask_each_named ps ts us h n r

    ask_each_named : (ps : Patterns) (ts us : Tys) → AskEach ps ts us → AllName m.adts (length m.interfaces) ts → ReadyPatterns ps
        → AllName m.adts (length m.interfaces) us × AllSettled us
    ask_each_named _ _ _ assigning.AskEach.no_more n r = (tt, tt)
    ask_each_named _ _ _ (assigning.AskEach.and_more p ps t u ts us h k) n r =
        let a = asks_named p t u h n.0 r.0 in
        let b = ask_each_named ps ts us k n.1 r.1 in
        ((a.0, b.0), (a.1, b.1))

  mutual
    pub asks_sound : (p : Pattern) (t u : Ty) → Asks p t u → ReadyPattern p → SoundPattern m vs p u
    asks_sound _ _ _ (assigning.its_own p t s h) r = (r, h)
    asks_sound _ _ _ (assigning.the_places p t h) r = (r, inl refl)
    asks_sound _ _ _ (assigning.Asks.nowhere t s) r = tt
    asks_sound _ _ _ (assigning.Asks.parts ps ts us h) r = (us, refl, ask_each_sound ps ts us h r)

    ask_each_sound : (ps : Patterns) (ts us : Tys) → AskEach ps ts us → ReadyPatterns ps → SoundPatterns m vs ps (listed us)
    ask_each_sound _ _ _ assigning.AskEach.no_more r = tt
    ask_each_sound _ _ _ (assigning.AskEach.and_more p ps t u ts us h k) r =
        (asks_sound p t u h r.0, ask_each_sound ps ts us k r.1)

  -- a pattern for a type is one for each that stands there
  pub sound_for : (p : Pattern) (t u : Ty) → Stands t u → SoundPattern m vs p u → SoundPattern m vs p t
  sound_for (ToPlace p) t u h s = (s.0, stands_on t u (type_at p) h s.1)
  sound_for ToNothing t u h s = tt
  sound_for (ToParts ps) t u (inl e) s = subst (λ (z : Ty). SoundPattern m vs (ToParts ps) z) (sym e) s
  sound_for (ToParts ps) (RefPick n v) u (inr e) s = absurd (no_tuple n s.0 (sym e ∙ s.1))
  sound_for (ToParts ps) _ u (inr e) s = absurd e
