-- A descriptor that a reply gives has a name in the service: what is answered alike under all names can't give one without.
use Rattle.std.proofs.Common.{◌≡◌, ℕ, ◌+◌, ◌<◌, ◌≤◌, Bool, true, false, List, [], ◌∷◌, Some, refl, sym, ◌∙◌, ap, subst, inl, inr, arith}
use Rattle.std.specs.Prelude.{◌||◌}
use Rattle.std.proofs.lemmas.Bool.Decides.{eqb_tells}
use Rattle.sg_facts.proofs.Replaying.Names.{alike_more, names_more, other_named, own_named}
use Rattle.sg_facts.specs.sg_base.declared.call.Call.{Call}
use Rattle.sg_facts.specs.sg_base.declared.reply.Good.{Good}
use Rattle.sg_facts.specs.sg_base.declared.reply.Reply.TheVariants.{Ok}
use Rattle.sg_facts.specs.declared.row.Row.{Row}
use Rattle.sg_facts.specs.Alike.{EachStands, HasAlike, SameFile, SameReply, Serves, named, under_names}
use Rattle.sg_facts.specs.Facts.{Facts, fun_at}
use Rattle.sg_facts.specs.Laws.{AnswersAlike, Passes}
use Rattle.sg_facts.specs.Legal.{Table}
use Rattle.sg_facts.specs.Needs.{is_needed, needs}
use Rattle.sg_facts.specs.Object.{Object}
use Rattle.sg_facts.specs.Sound.{AreRows, IsRow, IsSound}
use Rattle.sg_facts.specs.Track.{is_ancestor, row_at}
use Rattle.sg_facts.proofs.RowLists.{id_of_row, row_of_live}
use Rattle.sg_recovery_laws.specs.Midway.Progress.{IsNone}
use Rattle.sg_facts.proofs.Replaying.Found.{above, same_test}
use Rattle.sg_recovery_laws.proofs.Midway.Least.{parent_needed, parent_of}

module _ (facts : Facts) (ask : Table) (sound : Object → Type 0) (law : AnswersAlike facts ask sound) (names : List (ℕ × ℕ)) (o held : Object) (call : Call) (is_sound : sound o) (general : IsSound facts o)
    (passes : Passes facts o call) (serves : Serves facts names o held call) (given : (id : ℕ) → named names id ≤ held.given) (makes : (fun_at facts.funs call.fun).creation ≡ false) (desc : IsNone o.rows call.desc) where
  needed_named : (r : Row) → row_at o.rows r.id ≡ Some r → is_needed facts o.rows call r ≡ true → 0 < named names r.id
  needed_named r there need =
      let has = serves.needed r there need in
      let low = above (IsRow facts held.rows) 0 held.given (named names r.id) held.rows has.row serves.held_sound.rows has.there in
      let its = id_of_row held.rows (named names r.id) has.row has.there in
      omega (arith, low, its)

  its_own : (r : Row) → r.id ≡ call.desc → is_needed facts o.rows call r ≡ true
  its_own r same = ap (λ b. (fun_at facts.funs call.fun).all || b || is_ancestor o.rows r.id call.desc) (same_test r.id call.desc same) ∙ at (fun_at facts.funs call.fun).all
    where
      at : (a : Bool) → (a || true || is_ancestor o.rows r.id call.desc) ≡ true
      at true = refl
      at false = refl

  module _ (id : ℕ) (some : id ≡ 0 → ⊥) (unnamed : named names id ≡ 0) where
    new : ℕ
    new = held.given + 1

    desc_apart : call.desc ≡ id → ⊥
    desc_apart same = elim desc [
      | inl root ↦ some (sym same ∙ root)
      | inr live ↦
          let r = row_of_live o.rows call.desc live in
          let low = needed_named r.0 (ap (row_at o.rows) r.2 ∙ r.1) (its_own r.0 r.2) in
          let none : named names r.0.id ≡ 0 = ap (named names) (r.2 ∙ same) ∙ unnamed in
          absurd (omega (arith, low, none))
    ]

    under_same : under_names ((id, held.given + 1) ∷ names) call ≡ under_names names call
    under_same = ap (λ n. record call { desc = n }) (other_named names id (held.given + 1) call.desc desc_apart)

    needed_more : (r : Row) → row_at o.rows r.id ≡ Some r → is_needed facts o.rows call r ≡ true → HasAlike ((id, held.given + 1) ∷ names) held r
    needed_more r there need =
        let has = serves.needed r there need in
        let own : r.id ≡ id → ⊥ = λ same. let low = needed_named r there need in let none : named names r.id ≡ 0 = ap (named names) same ∙ unnamed in absurd (omega (arith, low, none)) in
        let parent : r.parent ≡ id → ⊥ = λ same.
        let up = parent_of facts o general r there (λ root. some (sym same ∙ root)) in
        let x = row_of_live o.rows r.parent up.1 in
        let there_x : row_at o.rows x.0.id ≡ Some x.0 = ap (row_at o.rows) x.2 ∙ x.1 in
        let low = needed_named x.0 there_x (parent_needed facts o general call r x.0 there there_x x.2 (λ root. some (sym same ∙ root)) need) in
        let none : named names x.0.id ≡ 0 = ap (named names) (x.2 ∙ same) ∙ unnamed in
        absurd (omega (arith, low, none)) in
        record {
          row = has.row;
          there = ap (row_at held.rows) (other_named names id (held.given + 1) r.id own) ∙ has.there;
          alike = alike_more names id (held.given + 1) r has.row own parent has.alike;
        }

    each_more : (ws : List Row) (low : ℕ) → AreRows (IsRow facts held.rows) low held.given ws → EachStands names o.rows ws → EachStands ((id, held.given + 1) ∷ names) o.rows ws
    each_more [] low are each = tt
    each_more (w ∷ ws) low are each = (
      record {
        of = each.0.of;
        live = each.0.live;
        id = other_named names id (held.given + 1) each.0.of (λ same. let none : named names each.0.of ≡ 0 = ap (named names) same ∙ unnamed in absurd (omega (arith, none, each.0.id, are.0))) ∙ each.0.id;
      },
      each_more ws w.id are.3 each.1,
    )

    serves_more : Serves facts ((id, held.given + 1) ∷ names) o held call
    serves_more = record {
      names_are = names_more names held.given id (held.given + 1) serves.names_are given (omega arith) (positive id some);
      held_sound = serves.held_sound;
      each = each_more held.rows 0 serves.held_sound.rows serves.each;
      needed = needed_more;
      file = subst (λ n. SameFile o held call.desc n (needs facts o call).file) (sym (other_named names id (held.given + 1) call.desc desc_apart)) serves.file;
    }
      where
        positive : (n : ℕ) → (n ≡ 0 → ⊥) → 0 < n
        positive n isn't = omega (arith, isn't)

    -- the service would have to give two different ids
    no_such : (good other : Good) → ask o call ≡ Some (Ok good) → ask held (under_names names call) ≡ Some (Ok other) → good.desc ≡ id → ⊥
    no_such good other is is_h its =
        let one : SameReply names false (Some (Ok good)) (Some (Ok other))
        = subst (λ b. SameReply names b (Some (Ok good)) (Some (Ok other))) makes (subst (λ x. SameReply names (fun_at facts.funs call.fun).creation x (Some (Ok other))) is
        (subst (SameReply names (fun_at facts.funs call.fun).creation (ask o call)) is_h (law.alike names o held call is_sound passes serves))) in
        let two : SameReply ((id, held.given + 1) ∷ names) false (Some (Ok good)) (Some (Ok other))
        = subst (λ b. SameReply ((id, held.given + 1) ∷ names) b (Some (Ok good)) (Some (Ok other))) makes (subst (λ x. SameReply ((id, held.given + 1) ∷ names) (fun_at facts.funs call.fun).creation x (Some (Ok other))) is
        (subst (SameReply ((id, held.given + 1) ∷ names) (fun_at facts.funs call.fun).creation (ask o call)) (ap (ask held) under_same ∙ is_h) (law.alike ((id, held.given + 1) ∷ names) o held call is_sound passes serves_more))) in
        let a : named names good.desc ≡ 0 = ap (named names) its ∙ unnamed in
        let b : named ((id, held.given + 1) ∷ names) good.desc ≡ held.given + 1 = ap (named ((id, held.given + 1) ∷ names)) its ∙ own_named names id (held.given + 1) in
        absurd (omega (arith, one.2, two.2, a, b))

  -- an Ok gives no descriptor, or one that has a name
  pub named_or_none : (good other : Good) → ask o call ≡ Some (Ok good) → ask held (under_names names call) ≡ Some (Ok other) → named names good.desc ≡ 0 → good.desc ≡ 0
  named_or_none good other is is_h none = elim (eqb_tells good.desc 0) [
    | inl root ↦ root.1
    | inr some ↦ absurd (no_such good.desc some.1 none good other is is_h refl)
  ]
