-- An item that is noted with its entry has the entry's reply, under the names after it.
use Rattle.std.proofs.Common.{◌≡◌, ℕ, Bool, true, false, cond, List, [], ◌∷◌, ◌++◌, Some, refl, sym, ◌∙◌, ap, subst, append-nil, arith}
use Rattle.std.specs.Prelude.{◌==◌, ◌≢◌}
use Rattle.std.specs.List.{list_any}
use Rattle.std.specs.declared.option.Option.{Option}
use Rattle.std.proofs.lemmas.Bool.Decides.{nat_tests}
use Rattle.sg_facts.specs.sg_base.declared.call.Call.{Call}
use Rattle.sg_facts.specs.sg_base.declared.reply.Good.{Good}
use Rattle.sg_facts.specs.sg_base.declared.reply.Reply.{Reply}
use Rattle.sg_facts.specs.sg_base.declared.reply.Reply.TheVariants.{Ok, Refused}
use Rattle.sg_facts.specs.declared.entry.Entry.{Entry}
use Rattle.sg_facts.specs.declared.outcome.Outcome.TheVariants.{Replied}
use Rattle.sg_facts.specs.declared.outcome.Patch.{Patch}
use Rattle.sg_facts.specs.declared.trace.Item.{Item}
use Rattle.sg_facts.specs.declared.trace.Tag.TheVariants.{Client}
use Rattle.sg_facts.specs.Alike.{SameReply, named}
use Rattle.sg_facts.specs.Facts.{Facts, fun_at}
use Rattle.sg_hist.specs.Reading.{id_given, names_at, pair_of}
use Rattle.sg_hist.specs.Inside.Reads.{desc_of, names_in}
use Rattle.sg_hist.specs.Recovered.{IsRenamed, IsReplyOf}
use Rattle.sg_hist.specs.Inside.Parts.{is_renamed}
use Rattle.sg_hist.proofs.Growing.{names_at-more}
use Rattle.sg_facts.proofs.Replaying.Found.{same_test}
use Rattle.sg_recovery_laws.proofs.LastItem.Reading.{named_push}

renamed_is : (names : List (ℕ × ℕ)) (id real : ℕ) → (real ≡ 0 → id ≡ 0) → named names id ≡ real → is_renamed names id real ≡ true
renamed_is names id real none is = by (real == 0) refl
  where
    by : (b : Bool) → (real == 0) ≡ b → cond b (id == 0) (named names id == real) ≡ true
    by true it = same_test id 0 (none (grind (arith, nat_tests, it)))
    by false it = same_test (named names id) real is

module _ (facts : Facts) (later : List Entry) (front : List Item) (item : Item) (call : Call) (names : List (ℕ × ℕ)) (patch : Option Patch) (tag : item.tag ≡ Client call.client call.seq) (shown : item.shown ≡ call) where
  pair_here : (good other : Good) → item.outcome ≡ Replied (Ok other) patch → id_given later call.client call.seq ≡ good.desc
      → (b : Bool) → (fun_at facts.funs call.fun).creation ≡ b → names_in facts later item.shown.fun item.tag item.outcome ≡ cond b ((good.desc, other.desc) ∷ []) []
  pair_here good other outcome given b makes =
      ap (λ t. names_in facts later item.shown.fun t item.outcome) tag ∙ ap (λ c. cond (fun_at facts.funs c.fun).creation (pair_of (id_given later call.client call.seq) item.outcome) []) shown
      ∙ ap (λ x. cond x (pair_of (id_given later call.client call.seq) item.outcome) []) makes
      ∙ ap (λ n. cond b (pair_of n item.outcome) []) given ∙ ap (λ o. cond b (pair_of good.desc o) []) outcome

  -- the reply of its entry
  pub reply_at : (reply other : Reply) → item.outcome ≡ Replied other patch → SameReply names (fun_at facts.funs call.fun).creation (Some reply) (Some other)
      → id_given later call.client call.seq ≡ desc_of reply
      → ((good : Good) → reply ≡ Ok good → (fun_at facts.funs call.fun).creation ≡ true → list_any (λ n. n.0 == good.desc) (names_at facts later front) ≡ false)
      → ((good : Good) → other ≡ Ok good → (fun_at facts.funs call.fun).creation ≡ true → good.desc ≢ 0)
      → ((good : Good) → reply ≡ Ok good → (fun_at facts.funs call.fun).creation ≡ false → named (names_at facts later front) good.desc ≡ named names good.desc)
      → ((good : Good) → reply ≡ Ok good → (fun_at facts.funs call.fun).creation ≡ false → named names good.desc ≡ 0 → good.desc ≡ 0)
      → IsReplyOf (names_at facts later (front ++ item ∷ [])) item.outcome reply
  reply_at (Refused code) (Refused real) outcome same given unnamed new told none = subst (λ o. IsReplyOf (names_at facts later (front ++ item ∷ [])) o (Refused code)) (sym outcome) (sym (refused (fun_at facts.funs call.fun).creation same))
    where
      refused : (b : Bool) → SameReply names b (Some (Refused code)) (Some (Refused real)) → real ≡ code
      refused true s = s
      refused false s = s
  reply_at (Refused code) (Ok other) outcome same given unnamed new told none = absurd (never (fun_at facts.funs call.fun).creation same)
    where
      never : (b : Bool) → SameReply names b (Some (Refused code)) (Some (Ok other)) → ⊥
      never true s = s
      never false s = s
  reply_at (Ok good) (Refused real) outcome same given unnamed new told none = absurd (never (fun_at facts.funs call.fun).creation same)
    where
      never : (b : Bool) → SameReply names b (Some (Ok good)) (Some (Refused real)) → ⊥
      never true s = s
      never false s = s
  reply_at (Ok good) (Ok other) outcome same given unnamed new told none =
      subst (λ o. IsReplyOf (names_at facts later (front ++ item ∷ [])) o (Ok good)) (sym outcome)
      (subst (λ l. IsRenamed l (Ok other) (Ok good)) (sym (names_at-more facts later front item)) (by (fun_at facts.funs call.fun).creation refl same))
    where
      by : (b : Bool) → (fun_at facts.funs call.fun).creation ≡ b → SameReply names b (Some (Ok good)) (Some (Ok other))
          → IsRenamed (names_at facts later front ++ names_in facts later item.shown.fun item.tag item.outcome) (Ok other) (Ok good)
      by true makes s =
          subst (λ l. IsRenamed (names_at facts later front ++ l) (Ok other) (Ok good)) (sym (pair_here good other outcome given true makes)) (
            sym s.0,
            sym s.1,
            renamed_is (names_at facts later front ++ (good.desc, other.desc) ∷ []) good.desc other.desc (λ zero_it. absurd (new other refl makes zero_it))
                (named_push (names_at facts later front) good.desc other.desc good.desc (unnamed good refl makes) ∙ ap (λ b. cond b other.desc (named (names_at facts later front) good.desc)) (same_test good.desc good.desc refl)),
          )
      by false makes s =
          subst (λ l. IsRenamed (names_at facts later front ++ l) (Ok other) (Ok good)) (sym (pair_here good other outcome given false makes))
          (subst (λ l. IsRenamed l (Ok other) (Ok good)) (sym (append-nil (names_at facts later front)))
          (sym s.0, sym s.1, renamed_is (names_at facts later front) good.desc other.desc (λ zero_it. none good refl makes (sym s.2 ∙ zero_it)) (told good refl makes ∙ sym s.2)))
