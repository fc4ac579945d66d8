-- A call that an interface lets pass still passes it after calls of other clients, and passes that of the whole service.
use Rattle.std.proofs.Common.{◌≡◌, Bool, true, false, cond, not, None, Some, length, refl, sym, ◌∙◌, ap}
use Rattle.std.specs.Prelude.{◌&&◌, nat_le, if◌then◌else◌}
use Rattle.std.specs.declared.option.Option.{Option}
use Rattle.sg_facts.specs.sg_base.declared.call.Call.{Call}
use Rattle.sg_facts.specs.sg_base.declared.reply.Code.{Code}
use Rattle.sg_facts.specs.sg_base.declared.reply.Code.TheVariants.{NoDesc, NoParent, BadState, HasChildren, Full}
use Rattle.sg_facts.specs.declared.row.Row.{Row}
use Rattle.sg_facts.specs.Facts.{Fun, fun_at, takes_desc, takes_parent}
use Rattle.sg_facts.specs.Guard.{guard}
use Rattle.sg_facts.specs.Inside.Guards.{in_state, may_be_parent, may_use, refusal}
use Rattle.sg_facts.specs.Limits.{most_live}
use Rattle.sg_facts.specs.Interface.{Declared}
use Rattle.sg_facts.specs.Legal.{Table}
use Rattle.sg_facts.specs.Object.{Object}
use Rattle.sg_facts.specs.Track.{row_at}
use Rattle.sg_facts.specs.Inside.Rows.{has_child}
use Rattle.sg_recovery_laws.specs.Objects.Apart.{SameFor}
use Rattle.sg_recovery_laws.specs.Objects.Serving.{IsLegalObject, IsService}
use Rattle.sg_recovery_laws.proofs.Objects.Answered.{child_same}
use Rattle.sg_recovery_laws.proofs.Objects.Guarded.{ActsOnOne, acts, let_pass, own_desc}
use Rattle.sg_recovery_laws.proofs.Objects.Steady.{ascends}

module _ (j : Declared) (ask : Table) (sound : Object → Type 0) (law : IsService j.facts ask sound) where
  -- two objects in which a client's rows are the same let its calls pass alike, but for the room
  pub guard_stays : (o o' : Object) (call : Call) → j.facts.global ≡ false → IsLegalObject j.facts sound o → IsLegalObject j.facts sound o' → ActsOnOne j.facts (fun_at j.facts.funs call.fun) → SameFor call.client o.rows o'.rows
      → (fun_at j.facts.funs call.fun).creation ≡ false → guard j o call ≡ None → guard j o' call ≡ None
  guard_stays o o' call alone good good' acts same makes passes = by (fun_at j.facts.funs call.fun).query refl
    where
      f : Fun
      f = fun_at j.facts.funs call.fun

      told : (row : Option Row) (room : Bool) (child : Bool) → Option Code
      told row room child =
          if takes_parent (fun_at j.facts.funs call.fun) && not (may_be_parent j.facts.parents row call.desc call.client) then Some NoParent
          else if (fun_at j.facts.funs call.fun).creation && room then Some Full
          else if takes_desc (fun_at j.facts.funs call.fun) && not (may_use j.facts row call.client) then Some NoDesc
          else if takes_desc (fun_at j.facts.funs call.fun) && not (in_state j row call.fun) then Some BadState
          else if (fun_at j.facts.funs call.fun).terminal && not j.facts.subtree && child then Some HasChildren
          else None

      no_room : (a b : Bool) (row : Option Row) (child : Bool) → told row a child ≡ told row b child
      no_room a b row child = ap (λ c.
          if takes_parent (fun_at j.facts.funs call.fun) && not (may_be_parent j.facts.parents row call.desc call.client) then Some NoParent
          else if c && a then Some Full
          else if takes_desc (fun_at j.facts.funs call.fun) && not (may_use j.facts row call.client) then Some NoDesc
          else if takes_desc (fun_at j.facts.funs call.fun) && not (in_state j row call.fun) then Some BadState
          else if (fun_at j.facts.funs call.fun).terminal && not j.facts.subtree && child then Some HasChildren
          else None) makes ∙ sym (ap (λ c.
          if takes_parent (fun_at j.facts.funs call.fun) && not (may_be_parent j.facts.parents row call.desc call.client) then Some NoParent
          else if c && b then Some Full
          else if takes_desc (fun_at j.facts.funs call.fun) && not (may_use j.facts row call.client) then Some NoDesc
          else if takes_desc (fun_at j.facts.funs call.fun) && not (in_state j row call.fun) then Some BadState
          else if (fun_at j.facts.funs call.fun).terminal && not j.facts.subtree && child then Some HasChildren
          else None) makes)

      by : (b : Bool) → (fun_at j.facts.funs call.fun).query ≡ b → guard j o' call ≡ None
      by true query = ap (λ b. cond b None (refusal j (fun_at j.facts.funs call.fun) o' call)) query
      by false row =
          let pass = let_pass j o call row passes in
          let on = own_desc j o call alone pass (acts.on makes row).0 in
          let rows : row_at o'.rows call.desc ≡ row_at o.rows call.desc = same.there call.desc on.row on.of on.own ∙ sym on.of in
          let child : has_child o'.rows call.desc ≡ has_child o.rows call.desc
          = child_same call.client o.rows o'.rows o.given o'.given call.desc (ascends j.facts o (law.keeps.general o good.is_sound)) (ascends j.facts o' (law.keeps.general o' good'.is_sound)) (good.own alone) (good'.own alone) same on in
          let was : refusal j (fun_at j.facts.funs call.fun) o call ≡ None = sym (ap (λ b. cond b None (refusal j (fun_at j.facts.funs call.fun) o call)) row) ∙ passes in
          ap (λ b. cond b None (refusal j (fun_at j.facts.funs call.fun) o' call)) row
          ∙ ap (λ r. told r (nat_le most_live (length o'.rows)) (has_child o'.rows call.desc)) rows
          ∙ ap (λ c. told (row_at o.rows call.desc) (nat_le most_live (length o'.rows)) c) child
          ∙ no_room (nat_le most_live (length o'.rows)) (nat_le most_live (length o.rows)) (row_at o.rows call.desc) (has_child o.rows call.desc) ∙ was
