-- Trees are as they were where a store has grown, and where an answer comes or is waited for.
use Rattle.std.proofs.Common.{ℕ, List, [], ◌∷◌, Option, Some, None, inl, inr}
use Rattle.limbo_types.specs.Types as ty
use Rattle.limbo_types.specs.Types.{Ty}
use Rattle.limbo_meaning.specs.Values.{Value, name_of}
use Rattle.limbo_meaning.specs.Places.{Root, Local, Global, Element, Target, Place, operand}
use Rattle.limbo_meaning.specs.Trees.{Pending, Work, Assign, Term, Evaluated, Awaiting, Missing, Node, Lazy, Deciding, Update, Change, Put}
use Rattle.limbo_meaning.specs.Trees.{Linking, Fill, Filling, Turning, Repeating, Terms, NoTerms, MoreTerms, Items, NoItems, MoreItems}
use Rattle.limbo_meaning.specs.Evaluation.{fill, fill_all, fill_items}
use Rattle.limbo_kept.specs.Values.{Store, Items as ItemsOf, Cells, Adts, Fits, EachFits}
use Rattle.limbo_kept.specs.Stores.{Grows}
use Rattle.limbo_kept.specs.Places.{Begins, PlaceIs}
use Rattle.limbo_kept.specs.Trees.{Scope, AnswerIs, PendingAre, FillsFor, TermIs, TermsAre, ItemsAre, RestIs, DeclaresFor}
use Rattle.limbo_kept.proofs.Fitted.{fits_later, refers_later, stands_fits}

module _ (s : Scope) (store later : Store) (grows : Grows store later) where
  pub begins_on : (r : Root) (vs : List Value) (t : Ty) → Begins s.adts s.globals store s.variables r vs t
      → Begins s.adts s.globals later s.variables r vs t
  begins_on (Local x) vs t b = b
  begins_on (Global x) vs t b = b
  begins_on Element vs t b = fits_later s.adts store later grows (ty.ArrayOf t) (operand 0 vs) b
  begins_on Target vs t b = (b.0, b.1, refers_later s.adts store later grows (Adts b.0) (name_of (operand 0 vs)) b.2)

  abbrev pub place_on : (p : Place) → PlaceIs s.adts s.globals store s.variables p → PlaceIs s.adts s.globals later s.variables p
  place_on p is = record {
    root = is.root;
    room = is.room;
    begins = begins_on p.way.root p.operands is.root is.begins;
    inner = is.inner;
    leads = is.leads;
    ends = is.ends;
  }

  pub pending_on : (ps : List Pending) → PendingAre s store ps → PendingAre s later ps
  pending_on [] h = tt
  pending_on (p ∷ ps) h =
      ((place_on p.place h.0.0, h.0.1, fits_later s.adts store later grows p.place.type p.value h.0.2), pending_on ps h.1)

  pub each_fits_on : (t : Ty) (vs : List Value) → EachFits s.adts store t vs → EachFits s.adts later t vs
  each_fits_on t [] h = tt
  each_fits_on t (v ∷ vs) h = (fits_later s.adts store later grows t v h.0, each_fits_on t vs h.1)

  pub fills_on : (i : Ty) (array : ℕ) (t : Ty) → FillsFor s store i array t → FillsFor s later i array t
  fills_on i array t h = (h.0, grows array (ItemsOf i) h.1, h.2)

  mutual
    -- what is waited for stands for what it did
    pub term_move : (v w : Option Ty) → ((t : Ty) → AnswerIs v t → AnswerIs w t)
        → (e : Term) (t : Ty) → TermIs s store v e t → TermIs s later w e t
    term_move v w k (Evaluated x) t h = fits_later s.adts store later grows t x h
    term_move v w k Awaiting t h = k t h
    term_move v w k Missing t h = tt
    term_move v w k (Node u o ts) t h = (h.0, terms_move v w k ts h.0 h.1, h.2)
    term_move v w k (Lazy c l r) t h = (term_move v w k l ty.Int h.0, term_move None None (λ t h. h) r ty.Int h.1, h.2)
    term_move v w k (Deciding r) t h = (term_move v w k r ty.Int h.0, h.1)
    term_move v w k (Update o g p way ts us) t h = (
      h.0,
      h.1,
      terms_move v w k ts h.0 h.2,
      terms_move None None (λ t h. h) us h.1 h.3,
      h.4,
      h.5,
      h.6,
      h.7,
      h.8,
      h.9,
    )
    term_move v w k (Change o g p ts) t h = (h.0, terms_move v w k ts (p.type ∷ h.0) h.1, place_on p h.2, h.3, h.4, h.5, h.6, h.7)
    term_move v w k (Put ps x) t h = (pending_on ps h.0, fits_later s.adts store later grows t x h.1)
    term_move v w k (Linking i vs r) t h = (h.0, each_fits_on i vs h.1, refers_later s.adts store later grows (Cells i) r h.2, h.3)
    term_move v w k (Fill i l is rest) t h = (
      h.0,
      term_move v w k l ty.Int h.1,
      items_move None None (λ t h. h) is i h.2,
      rest_on rest i
          h.3,
      h.4,
    )
    term_move v w k (Filling i p is ns rest) t h = (fills_on i p.array t h.0, items_move v w k is i h.1, rest_on rest i h.2)
    term_move v w k (Turning i p ns e) t h = (fills_on i p.array t h.0, term_move None None (λ t h. h) e i h.1)
    term_move v w k (Repeating i p n ns e now) t h = (
      fills_on i p.array t h.0,
      term_move None None (λ t h. h) e i h.1,
      term_move v w k
          now i h.2,
    )

    pub terms_move : (v w : Option Ty) → ((t : Ty) → AnswerIs v t → AnswerIs w t)
        → (es : Terms) (ts : List Ty) → TermsAre s store v es ts → TermsAre s later w es ts
    terms_move v w k NoTerms [] h = tt
    terms_move v w k NoTerms (t ∷ ts) h = absurd h
    terms_move v w k (MoreTerms e es) [] h = absurd h
    terms_move v w k (MoreTerms e es) (t ∷ ts) h = (term_move v w k e t h.0, terms_move v w k es ts h.1)

    pub items_move : (v w : Option Ty) → ((t : Ty) → AnswerIs v t → AnswerIs w t)
        → (is : Items) (t : Ty) → ItemsAre s store v is t → ItemsAre s later w is t
    items_move v w k NoItems t h = tt
    items_move v w k (MoreItems z e is) t h = (term_move v w k e t h.0, items_move None None (λ t h. h) is t h.1)

    pub rest_on : (es : Terms) (t : Ty) → RestIs s store es t → RestIs s later es t
    rest_on NoTerms t h = tt
    rest_on (MoreTerms e es) t h = term_move None None (λ t h. h) e t h

  -- nothing is waited for; so whatever is
  pub term_on : (w : Option Ty) (e : Term) (t : Ty) → TermIs s store None e t → TermIs s later w e t
  term_on w e t h = term_move None w (λ t h. absurd h) e t h

  pub terms_on : (w : Option Ty) (es : Terms) (ts : List Ty) → TermsAre s store None es ts → TermsAre s later w es ts
  terms_on w es ts h = terms_move None w (λ t h. absurd h) es ts h

  pub items_on : (w : Option Ty) (is : Items) (t : Ty) → ItemsAre s store None is t → ItemsAre s later w is t
  items_on w is t h = items_move None w (λ t h. absurd h) is t h

-- ---- the answer in place of the wait for it

module _ (s : Scope) (store : Store) (a : Ty) (v : Value) (fit : Fits s.adts store a v) where
  declares_filled : (o : Work) (ts : Terms) (t : Ty) → DeclaresFor s o ts t → DeclaresFor s o (fill_all v ts) t
  declares_filled (Assign aims) (MoreTerms (Evaluated u) NoTerms) t h = h
  declares_filled _ _ t h = absurd h

  mutual
    pub filled : (e : Term) (t : Ty) → TermIs s store (Some a) e t → TermIs s store None (fill v e) t
    filled (Evaluated u) t h = h
    filled Awaiting t h = stands_fits s.adts store a t v h fit
    filled Missing t h = tt
    filled (Node u o ts) t h =
        (h.0, all_filled ts h.0 h.1, elim h.2 [ inl k ↦ inl k | inr k ↦ inr (declares_filled o ts t k) ])
    filled (Lazy c l r) t h = (filled l ty.Int h.0, h.1, h.2)
    filled (Deciding r) t h = (filled r ty.Int h.0, h.1)
    filled (Update o g p way ts us) t h = (h.0, h.1, all_filled ts h.0 h.2, h.3, h.4, h.5, h.6, h.7, h.8, h.9)
    filled (Change o g p ts) t h = (h.0, all_filled ts (p.type ∷ h.0) h.1, h.2, h.3, h.4, h.5, h.6, h.7)
    filled (Put ps u) t h = h
    filled (Linking i vs r) t h = h
    filled (Fill i l is rest) t h = (h.0, filled l ty.Int h.1, h.2, h.3, h.4)
    filled (Filling i p is ns rest) t h = (h.0, items_filled is i h.1, h.2)
    filled (Turning i p ns e) t h = h
    filled (Repeating i p n ns e now) t h = (h.0, h.1, filled now i h.2)

    all_filled : (es : Terms) (ts : List Ty) → TermsAre s store (Some a) es ts → TermsAre s store None (fill_all v es) ts
    all_filled NoTerms [] h = tt
    all_filled NoTerms (t ∷ ts) h = absurd h
    all_filled (MoreTerms e es) [] h = absurd h
    all_filled (MoreTerms e es) (t ∷ ts) h = (filled e t h.0, all_filled es ts h.1)

    items_filled : (is : Items) (t : Ty) → ItemsAre s store (Some a) is t → ItemsAre s store None (fill_items v is) t
    items_filled NoItems t h = tt
    items_filled (MoreItems z e is) t h = (filled e t h.0, h.1)
