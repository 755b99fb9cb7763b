use Rattle.std.proofs.Common.{◌≡◌, ℕ, ◌<◌, List, length, sym, ap, ◌∙◌, arith}
use Rattle.std.proofs.lemmas.Result.{err_from_is_err_and}
use Rattle.limbo_types.specs.View.{view_ty}
use Rattle.limbo_layout.specs.Adts.{Def, Has, held}
use Rattle.limbo_layout.specs.Layout.{Room, Laid, behind, nothing, map_of, limit}
use Rattle.limbo_layout.specs.Laying.{room, AreLaid}
use Rattle.limbo_layout.specs.declared.def.LayoutFault.TheVariants.{TooLarge}
use Rattle.limbo_layout.proofs.Rooms.{reads, one_room, aligned, behind-nothing}
use Rattle.limbo_layout.proofs.layout.layout_of.Goals as goal

pub returns-in_err-put_type-clause-too_large : goal.returns-in_err-put_type-clause-too_large
returns-in_err-put_type-clause-too_large c = λ defs a.
    let t = view_ty c.args.t.now in
    let own : Room = room c.args.rooms.now t in
    let h : Laid defs t own = reads defs c.args.rooms.now t (λ n i. (a.each n (let l = c.requires n i in let m = a.same_length in omega arith)).laid) in
    let b : behind nothing own ≡ own = behind-nothing own (aligned defs t own h) in
    let k : c.in_err-put_type.field-0.0 ≡ TooLarge → (r : Room) → Laid defs t r → limit < r.size =
    λ e r j.
    let o : own ≡ r = one_room defs t own r h j in
    let w : c.new-whole.result ≡ nothing = c.new-whole.ensures in
    let l : limit < (behind nothing own).size = rw w at (c.in_err-put_type.ensures.too_large e) in
    let s : (behind nothing own).size ≡ r.size = ap (λ (z : Room). z.size) (b ∙ o) in
    omega arith in
    let p = err_from_is_err_and c.from_residual.result c.from_residual.ensures.1 in
    rw (p.1, p.2) k

pub returns-clause-laid : goal.returns-clause-laid
returns-clause-laid c = λ defs a.
    let t = view_ty c.args.t.now in
    let own : Room = room c.args.rooms.now t in
    let h : Laid defs t own = reads defs c.args.rooms.now t (λ n i. (a.each n (let l = c.requires n i in let m = a.same_length in omega arith)).laid) in
    let b : behind nothing own ≡ own = behind-nothing own (aligned defs t own h) in
    let w : c.put_type.new.whole ≡ own = c.in_ok-put_type.ensures.ok ∙ ap (λ z. behind z own) c.new-whole.ensures ∙ b in
    (own, h, c.size.ensures.value ∙ ap (λ (z : Room). z.size) w, c.in_ok-map.ensures ∙ ap map_of w)
