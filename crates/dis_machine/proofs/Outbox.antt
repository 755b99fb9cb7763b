-- The requests that are to be handed over, without the oldest of a link.
use Rattle.std.proofs.Common.{◌≡◌, ◌≢◌, ℕ, suc, ◌+◌, ◌<◌, Bool, true, false, List, [], ◌∷◌, ◌++◌, length, take, drop, get_or, refl, sym, ap, subst, ◌∙◌, rules, tests, drop-cons, if◌then◌else◌}
use Rattle.std.specs.Prelude.{nat_eq, ◌==◌}
use Rattle.std.specs.List.{remove}
use Rattle.std.proofs.lemmas.List.{take_more, take-append-drop}
use Rattle.std.proofs.lemmas.Option.{get_or_from_slice_get, slice_get_within}
use Rattle.sys_print.specs.declared.writing.Request.{Request}
use Rattle.sys_print.specs.Printing.{view_request}
use Rattle.dis_machine.specs.Frames.{in_front}
use Rattle.dis_machine.specs.Kept.{frames_on, IsOldest, EndsWith}
use Rattle.dis_machine.proofs.Traces.{frames_more, ends_later}

goes_over : (link : ℕ) (m : Request) (frames : List (List ℕ)) → m.link ≡ link → in_front link (view_request m) frames ≡ m.frame.items ∷ frames
goes_over link m frames e = let h : (m.link == link) ≡ true = search (rules, tests, e) in ap (λ b. if b then m.frame.items ∷ frames else frames) h

stays_off : (link : ℕ) (m : Request) (frames : List (List ℕ)) → m.link ≢ link → in_front link (view_request m) frames ≡ frames
stays_off link m frames e = let h : (m.link == link) ≡ false = search (rules, tests, e) in ap (λ b. if b then m.frame.items ∷ frames else frames) h

-- One more that doesn't go over the link.
pub one_off : (link : ℕ) (ms : List Request) (place : ℕ) (m : Request) → place < length ms → m ≡ get_or ms place m → m.link ≢ link → frames_on link (take place ms) ≡ [] → frames_on link (take (place + 1) ms) ≡ []
one_off link ms place m lt is off none =
    ap (frames_on link) (take_more ms place m lt ∙ ap (λ x. take place ms ++ x ∷ []) (sym is))
    ∙ frames_more link (take place ms) (m ∷ [])
    ∙ ap (λ xs. xs ++ frames_on link (m ∷ [])) none
    ∙ stays_off link m [] off

module _ (link : ℕ) (ms : List Request) (place : ℕ) (o : IsOldest link ms place) where
  parts : ms ≡ take place ms ++ o.request ∷ drop (suc place) ms
  parts =
      sym (take-append-drop place ms)
      ∙ ap (λ xs. take place ms ++ xs) (drop-cons ms place o.request (slice_get_within ms place o.request o.there) ∙ ap (λ x. x ∷ drop (suc place) ms) (get_or_from_slice_get ms place o.request o.request o.there))

  -- The frames of a link, in front of those behind.
  split : (other : ℕ) → frames_on other ms ≡ frames_on other (take place ms) ++ in_front other (view_request o.request) (frames_on other (drop (suc place) ms))
  split other = ap (frames_on other) parts ∙ frames_more other (take place ms) (o.request ∷ drop (suc place) ms)

  pub handed : frames_on link ms ≡ o.request.frame.items ∷ frames_on link (remove ms place)
  handed =
      split link
      ∙ ap (λ xs. xs ++ in_front link (view_request o.request) (frames_on link (drop (suc place) ms))) o.first
      ∙ goes_over link o.request (frames_on link (drop (suc place) ms)) o.goes
      ∙ ap (λ xs. o.request.frame.items ∷ xs) (sym (frames_more link (take place ms) (drop (suc place) ms) ∙ ap (λ xs. xs ++ frames_on link (drop (suc place) ms)) o.first))

  pub others_stay : (other : ℕ) → other ≢ link → frames_on other (remove ms place) ≡ frames_on other ms
  others_stay other ne =
      let off : o.request.link ≢ other = λ e. ne (sym e ∙ o.goes) in
      frames_more other (take place ms) (drop (suc place) ms)
      ∙ ap (λ xs. frames_on other (take place ms) ++ xs) (sym (stays_off other o.request (frames_on other (drop (suc place) ms)) off))
      ∙ sym (split other)

  -- What is left is still the end of all.
  pub left_over : (other : ℕ) (all : List (List ℕ)) → EndsWith (frames_on other ms) all → EndsWith (frames_on other (remove ms place)) all
  left_over other all e = go (nat_eq other link) refl
    where
      go : (b : Bool) → nat_eq other link ≡ b → EndsWith (frames_on other (remove ms place)) all
      go true h =
          let same : other ≡ link = search (rules, tests, h) in
          ends_later o.request.frame.items (frames_on other (remove ms place)) all
          (subst (λ xs. EndsWith xs all) (subst (λ l. frames_on l ms ≡ o.request.frame.items ∷ frames_on l (remove ms place)) (sym same) handed) e)
      go false h =
          let ne : other ≢ link = search (rules, tests, h) in
          subst (λ xs. EndsWith xs all) (sym (others_stay other ne)) e
