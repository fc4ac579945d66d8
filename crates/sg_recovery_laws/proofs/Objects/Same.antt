-- A service answers a call alike where what the call needs is the same, whatever else there is.
use Rattle.std.proofs.Common.{◌≡◌, ℕ, zero, suc, ◌<◌, ◌≤◌, true, false, cond, List, [], ◌∷◌, None, Some, refl, sym, ◌∙◌, ap, subst, inl, inr, ◌⊎◌, arith}
use Rattle.std.specs.Prelude.{max}
use Rattle.std.specs.declared.option.Option.{Option}
use Rattle.std.proofs.lemmas.Bool.{cases_lt}
use Rattle.std.proofs.lemmas.Bool.Decides.{eqb_tells}
use Rattle.sg_facts.specs.sg_base.declared.call.Call.{Call}
use Rattle.sg_facts.specs.sg_base.declared.reply.Good.{Good}
use Rattle.sg_facts.specs.sg_base.declared.reply.Reply.{Reply}
use Rattle.sg_facts.specs.sg_base.declared.reply.Reply.TheVariants.{Ok, Refused}
use Rattle.sg_facts.specs.declared.row.Row.{Row}
use Rattle.sg_facts.specs.Alike.{AreNames, EachStands, SameFile, SameReply, Serves, named, under_names}
use Rattle.sg_facts.specs.Facts.{Facts, fun_at}
use Rattle.sg_facts.specs.Laws.{AnswersAlike, Passes}
use Rattle.sg_facts.specs.Legal.{Table}
use Rattle.sg_facts.specs.Needs.{is_needed, needs}
use Rattle.sg_facts.specs.Object.{Object}
use Rattle.sg_facts.specs.Sound.{AreRows, IsRow, IsSound}
use Rattle.sg_facts.specs.Track.{is_live, row_at}
use Rattle.sg_track.specs.Tracked.{HasLowerParent}
use Rattle.sg_recovery_laws.proofs.Objects.Found.{lower_parents}
use Rattle.sg_facts.proofs.Replaying.Found.{met, other_test, same_test, within}

-- each id up to a number under its own name
pub idents : ℕ → List (ℕ × ℕ)
idents zero = []
idents (suc n) = (suc n, suc n) ∷ idents n

pub ident : (n id : ℕ) → id ≤ n → named (idents n) id ≡ id
unfolding idents
ident zero id le = omega (arith, le)
ident (suc n) id le = elim (eqb_tells (suc n) id) [
  | inl is ↦ ap (λ b. cond b (suc n) (named (idents n) id)) is.0 ∙ is.1
  | inr apart ↦ ap (λ b. cond b (suc n) (named (idents n) id)) apart.0 ∙ ident n id (omega (arith, le, apart.1))
]

no_ident : (n id : ℕ) → n < id → named (idents n) id ≡ 0
unfolding idents
no_ident zero id lt = refl
no_ident (suc n) id lt = ap (λ b. cond b (suc n) (named (idents n) id)) (other_test (suc n) id (λ is. absurd (omega (arith, is, lt)))) ∙ no_ident n id (omega (arith, lt))

low_ident : (n id : ℕ) → (named (idents n) id ≡ 0) ⊎ ((named (idents n) id ≡ id) × (id ≤ n))
low_ident n id = elim (cases_lt n id) [
  | inl lt ↦ inl (no_ident n id lt)
  | inr le ↦ inr (ident n id le, le)
]

are_idents : (n : ℕ) → AreNames (idents n)
are_idents n = record { none = ident n 0 (omega arith); apart = λ a b same. at a b same (low_ident n a) (low_ident n b) }
  where
    at : (a b : ℕ) → named (idents n) a ≡ named (idents n) b → (named (idents n) a ≡ 0) ⊎ ((named (idents n) a ≡ a) × (a ≤ n)) → (named (idents n) b ≡ 0) ⊎ ((named (idents n) b ≡ b) × (b ≤ n))
        → (named (idents n) a ≡ 0) ⊎ (a ≡ b)
    at a b same (inl none) y = inl none
    at a b same (inr x) (inl none) = inl (same ∙ none)
    at a b same (inr x) (inr y) = inr (sym x.0 ∙ same ∙ y.0)

-- the descriptor of a reply, 0 for none
abbrev desc_in : Option Reply → ℕ
desc_in None = 0
desc_in (Some (Ok good)) = good.desc
desc_in (Some (Refused code)) = 0

same_good : (good other : Good) → other.words ≡ good.words → other.bytes ≡ good.bytes → other.desc ≡ good.desc → other ≡ good
same_good good other words bytes desc =
    ap (λ d. good_of d other.words other.bytes) desc ∙ ap (λ w. good_of good.desc w other.bytes) words ∙ ap (λ b. good_of good.desc good.words b) bytes
  where
    good_of : ℕ → List ℕ → List ℕ → Good
    good_of desc words bytes = record { desc = desc; words = words; bytes = bytes }

-- replies that say the same under their own names are one
one_reply : (n : ℕ) (x y : Option Reply) → desc_in x ≤ n → SameReply (idents n) false x y → y ≡ x
one_reply n None None le same = refl
one_reply n None (Some y) le same = absurd same
one_reply n (Some (Refused code)) None le same = absurd same
one_reply n (Some (Refused code)) (Some (Refused other)) le same = ap (λ c. Some (Refused c)) same
one_reply n (Some (Refused code)) (Some (Ok other)) le same = absurd same
one_reply n (Some (Ok good)) None le same = absurd same
one_reply n (Some (Ok good)) (Some (Refused other)) le same = absurd same
one_reply n (Some (Ok good)) (Some (Ok other)) le same = ap (λ g. Some (Ok g)) (same_good good other same.0 same.1 (same.2 ∙ ident n good.desc le))

-- what a call needs is the same in another object, which has no other rows
pub record NeedsSame (facts : Facts) (o held : Object) (call : Call) : Type 0 where
  pub fewer : (id : ℕ) (w : Row) → row_at held.rows id ≡ Some w → is_live o.rows id ≡ true
  pub needed : (r : Row) → row_at o.rows r.id ≡ Some r → is_needed facts o.rows call r ≡ true → row_at held.rows r.id ≡ Some r
  pub file : SameFile o held call.desc call.desc (needs facts o call).file

module _ (facts : Facts) (ask : Table) (sound : Object → Type 0) (law : AnswersAlike facts ask sound) where
  pub ask_same : (o held : Object) (call : Call) → sound o → IsSound facts o → IsSound facts held → Passes facts o call → NeedsSame facts o held call
      → (fun_at facts.funs call.fun).creation ≡ false → call.desc ≤ o.given → ask held call ≡ ask o call
  ask_same o held call is_sound general held_sound passes same makes low =
      let n = max (max o.given held.given) (desc_in (ask o call)) in
      let given_o : o.given ≤ n = omega arith in
      let given_h : held.given ≤ n = omega arith in
      let desc : named (idents n) call.desc ≡ call.desc = ident n call.desc (omega (arith, low, given_o)) in
      let call_is : under_names (idents n) call ≡ call = ap (λ d. record call { desc = d }) desc in
      let serves : Serves facts (idents n) o held call = record {
        names_are = are_idents n;
        held_sound = held_sound;
        each = stands n held.rows 0 given_h held_sound.rows (λ id w there. same.fewer id w there);
        needed = λ r there need. record {
          row = r;
          there = ap (row_at held.rows) (ident n r.id (omega (arith, given_o, within (IsRow facts o.rows) 0 o.given r.id o.rows r general.rows there))) ∙ same.needed r there need;
          alike = record {
            id = ident n r.id (omega (arith, given_o, within (IsRow facts o.rows) 0 o.given r.id o.rows r general.rows there));
            made = refl;
            parent = sym (ident n r.parent (
                let most = within (IsRow facts o.rows) 0 o.given r.id o.rows r general.rows there in
                let lower = met HasLowerParent 0 o.given r.id o.rows r (lower_parents facts o.rows 0 o.given o.rows general.rows) there in
                omega (arith, given_o, most, lower)));
            state = refl;
            fields = refl;
          };
        };
        file = subst (λ d. SameFile o held call.desc d (needs facts o call).file) (sym desc) same.file;
      } in
      let replies : SameReply (idents n) (fun_at facts.funs call.fun).creation (ask o call) (ask held (under_names (idents n) call)) = law.alike (idents n) o held call is_sound passes serves in
      ap (ask held) (sym call_is) ∙ one_reply n (ask o call) (ask held (under_names (idents n) call)) (omega arith)
      (subst (λ b. SameReply (idents n) b (ask o call) (ask held (under_names (idents n) call))) makes replies)
    where
      stands : (n : ℕ) (ws : List Row) (from : ℕ) → held.given ≤ n → AreRows (IsRow facts held.rows) from held.given ws → ((id : ℕ) (w : Row) → row_at ws id ≡ Some w → is_live o.rows id ≡ true)
          → EachStands (idents n) o.rows ws
      stands n [] from le are fewer = tt
      stands n (w ∷ ws) from le are fewer = (
        record { of = w.id; live = fewer w.id w (ap (λ b. cond b (Some w) (row_at ws w.id)) (same_test w.id w.id refl)); id = ident n w.id (omega (arith, le, are.1)) },
        stands n ws w.id le are.3 (λ id x there. elim (eqb_tells w.id id) [
          | inl is ↦ fewer id w (ap (λ b. cond b (Some w) (row_at ws id)) is.0)
          | inr apart ↦ fewer id x (ap (λ b. cond b (Some w) (row_at ws id)) apart.0 ∙ there)
        ]),
      )
