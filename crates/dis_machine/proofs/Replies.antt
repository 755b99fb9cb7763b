-- The reply that bytes are, and what is decoded of them.
use Rattle.std.proofs.Common.{◌≡◌, ℕ, ◌-◌, ◌≤◌, Bool, true, false, List, [], ◌++◌, length, take, drop, Option, Some, None, Result, Ok, Err, inl, inr, refl, sym, ap, subst, ◌∙◌, arith, rules, tests, if◌then◌else◌}
use Rattle.std.specs.Prelude.{nat_le, ◌==◌, ◌&&◌}
use Rattle.std.proofs.lemmas.List.{append-nil, length-drop, take_all, nil_from_length}
use Rattle.byteorder.specs.Endian.{little_number}
use Rattle.styx_msg.specs.declared.message.Rmsg.{Rmsg}
use Rattle.styx_decoding.specs.declared.kind.RKind.{RKind}
use Rattle.styx_msg.specs.Styx.{r_row, fields_bytes, Begins, stated_size, stated_type}
use Rattle.styx_decoding.specs.Reading.{r_number, r_kind_of, r_body_at}
use Rattle.styx_msg.specs.declared.fault.StyxFault.{StyxFault}
use Rattle.styx_msg.specs.declared.fault.StyxFault.TheVariants.{NoMemory}
use Rattle.styx_msg.specs.declared.message.Decoded.{Decoded}
use Rattle.styx_msg.specs.declared.message.Decoded.TheVariants.{Whole, Short}
use Rattle.styx_msg.specs.Answers.{OrNoMemory}
use Rattle.styx_decoding.specs.Decoding.{IsFrame}
use Rattle.styx_decoding.proofs.Fields.{IsBytes}
use Rattle.styx_decoding.proofs.Rows.{r_kind_is, r_direction}
use Rattle.styx_decoding.proofs.Frames.{framed, determined}
use Rattle.styx_decoding.proofs.Frames as frames
use Rattle.inf_text.specs.Options.{◌>>=◌}
use Rattle.dis_machine.specs.Journal.{Tagged, has_size, whole, reply_in}

module _ (bytes : List ℕ) (tag : ℕ) (m : Rmsg) (b : Begins r_row bytes tag m (length bytes)) where
  abbrev body : List ℕ
  body = take (stated_size bytes - 7) (drop 7 bytes)

  abbrev fields : List ℕ
  fields = fields_bytes (r_row m).fields

  f : IsFrame bytes (stated_type bytes) (little_number 2 (drop 5 bytes)) body (stated_size bytes)
  f = record { framed = framed r_row bytes tag (length bytes) m b; size_is = refl; type_is = refl; tag_is = refl; body_is = refl }

  parts : (stated_size bytes ≡ length bytes) × (stated_type bytes ≡ (r_row m).type) × (little_number 2 (drop 5 bytes) ≡ tag) × (body ≡ fields)
  parts = determined r_row bytes body (stated_type bytes) (little_number 2 (drop 5 bytes)) (stated_size bytes) tag (length bytes) m f b

  sized : has_size bytes ≡ true
  sized =
      let s = parts.0 in
      let n = (framed r_row bytes tag (length bytes) m b).1 in
      let l : 7 ≤ length bytes = omega (arith, n.0, s) in
      let h : length bytes ≤ 8216 = omega (arith, n.1, s) in
      three (nat_le 7 (length bytes)) (nat_le (length bytes) 8216) (stated_size bytes == length bytes) (search (rules, tests, l)) (search (rules, tests, h)) (search (rules, tests, s))
    where
      three : (x y z : Bool) → x ≡ true → y ≡ true → z ≡ true → (x && (y && z)) ≡ true
      three x y z e f g = ap (λ x. x && (y && z)) e ∙ ap (λ y. y && z) f ∙ g

  body_is : drop 7 bytes ≡ fields ++ []
  body_is =
      let p = parts in
      let l : length (drop 7 bytes) ≤ stated_size bytes - 7 = omega (arith, length-drop 7 bytes, p.0) in
      sym (take_all (stated_size bytes - 7) (drop 7 bytes) l) ∙ p.3 ∙ sym (append-nil fields)

  -- A reply's bytes are it.
  pub reads : reply_in bytes ≡ Some (record { tag = tag; reply = m })
  unfolding reply_in
  reads =
      let p = parts in
      let known : r_kind_of (stated_type bytes) ≡ Some (r_kind_is m) = ap r_kind_of p.1 ∙ r_direction.known m in
      let read : r_body_at (r_kind_is m) (fields ++ []) ≡ Some (m, []) = (r_direction.agains m b.fits.fields_fit).again [] in
      ap (λ s. if s then r_kind_of (stated_type bytes) >>= (λ kind. r_body_at kind (drop 7 bytes) >>= whole (little_number 2 (drop 5 bytes))) else None) sized
      ∙ ap (λ o. o >>= (λ kind. r_body_at kind (drop 7 bytes) >>= whole (little_number 2 (drop 5 bytes)))) known
      ∙ ap (λ o. o >>= whole (little_number 2 (drop 5 bytes))) (ap (r_body_at (r_kind_is m)) body_is ∙ read)
      ∙ ap (λ n. whole n (m, [])) p.2

module _ (bytes : List ℕ) (fits : IsBytes bytes) (r : Tagged) where
  abbrev tag_in : ℕ
  tag_in = little_number 2 (drop 5 bytes)

  -- What bytes are is spelled by them.
  pub spells : reply_in bytes ≡ Some r → Begins r_row bytes r.tag r.reply (length bytes)
  unfolding reply_in
  spells e = by_size (has_size bytes) refl e
    where
      by_rest : (k : RKind) (m : Rmsg) (rest : List ℕ) (z : Bool) → has_size bytes ≡ true → r_kind_of (stated_type bytes) ≡ Some k → r_body_at k (drop 7 bytes) ≡ Some (m, rest) → (length rest == 0) ≡ z →
          (if z then Some (record { tag = tag_in; reply = m }) else None) ≡ Some r → Begins r_row bytes r.tag r.reply (length bytes)
      by_rest k m rest false s known read none e = absurd cc
      by_rest k m rest true s known read none e =
          let same : record { tag = tag_in; reply = m } ≡ r = cc in
          let l : 7 ≤ length bytes = search (rules, tests, s) in
          let h : length bytes ≤ 8216 = search (rules, tests, s) in
          let q : stated_size bytes ≡ length bytes = search (rules, tests, s) in
          let n : length rest ≡ 0 = search (rules, tests, none) in
          let empty : rest ≡ [] = nil_from_length rest n in
          let all : take (length bytes - 7) (drop 7 bytes) ≡ drop 7 bytes = take_all (length bytes - 7) (drop 7 bytes) (omega (arith, length-drop 7 bytes)) in
          let frame : IsFrame bytes (stated_type bytes) tag_in (drop 7 bytes) (length bytes) =
          record { framed = (omega (arith, l), (omega (arith, l, q), omega (arith, h, q)), omega (arith, q)); size_is = sym q; type_is = refl; tag_is = refl; body_is = sym all } in
          subst (λ (r : Tagged). Begins r_row bytes r.tag r.reply (length bytes)) same
          (frames.whole r_row r_number r_kind_of r_body_at r_kind_is r_direction bytes (drop 7 bytes) (stated_type bytes) tag_in (length bytes) k m fits frame known (read ∙ ap (λ xs. Some (m, xs)) empty))

      by_body : (k : RKind) (o : Option (Rmsg × List ℕ)) → has_size bytes ≡ true → r_kind_of (stated_type bytes) ≡ Some k → r_body_at k (drop 7 bytes) ≡ o → (o >>= whole tag_in) ≡ Some r → Begins r_row bytes r.tag r.reply (length bytes)
      by_body k None s known read e = absurd cc
      by_body k (Some (m, rest)) s known read e = by_rest k m rest (length rest == 0) s known read refl e

      by_kind : (o : Option RKind) → has_size bytes ≡ true → r_kind_of (stated_type bytes) ≡ o → (o >>= (λ kind. r_body_at kind (drop 7 bytes) >>= whole tag_in)) ≡ Some r → Begins r_row bytes r.tag r.reply (length bytes)
      by_kind None s known e = absurd cc
      by_kind (Some k) s known e = by_body k (r_body_at k (drop 7 bytes)) s known refl e

      by_size : (z : Bool) → has_size bytes ≡ z → (if z then r_kind_of (stated_type bytes) >>= (λ kind. r_body_at kind (drop 7 bytes) >>= whole tag_in) else None) ≡ Some r → Begins r_row bytes r.tag r.reply (length bytes)
      by_size false s e = absurd cc
      by_size true s e = by_kind (r_kind_of (stated_type bytes)) s refl e

-- ---- what is decoded

pub reads_at : (bytes : List ℕ) (tag used : ℕ) (m : Rmsg) → Begins r_row bytes tag m used → used ≡ length bytes → reply_in bytes ≡ Some (record { tag = tag; reply = m })
reads_at bytes tag used m b e = reads bytes tag m (subst (λ n. Begins r_row bytes tag m n) e b)

-- Where none is decoded, bytes are no reply.
pub no_reply : (bytes : List ℕ) → IsBytes bytes → (result : Result (Decoded Rmsg) StyxFault) → ((tag : ℕ) (m : Rmsg) (used : ℕ) → Begins r_row bytes tag m used → OrNoMemory result (Ok (Whole tag m used))) →
    ((tag : ℕ) (m : Rmsg) → result ≡ Ok (Whole tag m (length bytes)) → ⊥) → (result ≡ Err NoMemory → ⊥) → reply_in bytes ≡ None
no_reply bytes fits result decodes other enough = go (reply_in bytes) refl
  where
    none : (tag : ℕ) (m : Rmsg) → OrNoMemory result (Ok (Whole tag m (length bytes))) → ⊥
    none tag m (inl e) = other tag m e
    none tag m (inr e) = enough e

    go : (o : Option Tagged) → reply_in bytes ≡ o → o ≡ None
    go None e = refl
    go (Some r) e = absurd (none r.tag r.reply (decodes r.tag r.reply (length bytes) (spells bytes fits r e)))

-- How many bytes were decoded.
abbrev pub used_of : Result (Decoded Rmsg) StyxFault → ℕ
used_of (Ok (Whole tag m used)) = used
used_of (Ok Short) = 0
used_of (Err e) = 0

pub same_used : (result : Result (Decoded Rmsg) StyxFault) (d : Decoded Rmsg) (tag tag' used used' : ℕ) (m m' : Rmsg) → result ≡ Ok d → d ≡ Whole tag m used → result ≡ Ok (Whole tag' m' used') → used ≡ used'
same_used result d tag tag' used used' m m' i f e = sym (ap (λ d. used_of (Ok d)) f) ∙ ap used_of (sym i ∙ e)

pub ok_not_err : (result : Result (Decoded Rmsg) StyxFault) (d : Decoded Rmsg) (e : StyxFault) → result ≡ Ok d → result ≡ Err e → ⊥
ok_not_err result d e h k = let both : Ok d ≡ Err e = sym h ∙ k in absurd cc
