-- Of a history one thing is said.
use Rattle.std.proofs.Common.{◌≡◌, ℕ, ◌+◌, true, false, cond, List, [], ◌∷◌, ◌++◌, Some, length, refl, sym, ◌∙◌, ap, subst, inl, inr, append_assoc}
use Rattle.std.specs.Prelude.{◌==◌, if◌then◌else◌}
use Rattle.std.specs.declared.option.Option.{Option}
use Rattle.sg_facts.specs.sg_base.declared.reply.Reply.{Reply}
use Rattle.sg_facts.specs.Interface.{Declared}
use Rattle.sg_facts.specs.Legal.{Table, answer}
use Rattle.sg_facts.specs.Object.{object_of}
use Rattle.sg_facts.specs.declared.entry.Entry.{Entry}
use Rattle.sg_facts.proofs.Replaying.Found.{other_test, same_test}
use Rattle.sg_verify.specs.Inside.Counting.{next_seq}
use Rattle.sg_verify.specs.Verdicts.{IsRight, IsVerdictOf}
use Rattle.sg_verify.specs.declared.verdict.Verdict.{Verdict}
use Rattle.sg_verify.specs.declared.verdict.Verdict.TheVariants.{Legal, BadSeq, BadReply}
use Rattle.sg_verify.proofs.Splits.{which}
use Rattle.sg_report.specs.sg_hist.Clients.{AreNumbered}

-- the next number of a client, at an entry after others
numbered_at : (acc before : List Entry) (e : Entry) (rest : List Entry) → AreNumbered acc (before ++ e ∷ rest) → e.call.seq ≡ next_seq (acc ++ before) e.call.client
numbered_at acc [] e rest numbered = numbered.0 ∙ ap (λ l. next_seq l e.call.client) (sym (nil acc))
  where
    nil : (l : List Entry) → l ++ [] ≡ l
    nil [] = refl
    nil (x ∷ l) = ap (λ l. x ∷ l) (nil l)
numbered_at acc (x ∷ before) e rest numbered = numbered_at (acc ++ x ∷ []) before e rest numbered.1 ∙ ap (λ l. next_seq l e.call.client) (append_assoc acc (x ∷ []) before)

module _ (i : Declared) (ask : Table) where
  -- an entry after others is right
  record IsRightAt (before : List Entry) (e : Entry) : Type 0 where
    seq : e.call.seq ≡ next_seq before e.call.client
    reply : answer i ask (object_of i.facts before) e.call ≡ Some e.reply

  right_at : (before : List Entry) (e : Entry) (rest : List Entry) → IsRight i ask (before ++ e ∷ rest) → IsRightAt before e
  right_at before e rest right = record { seq = numbered_at [] before e rest right.numbered; reply = right.legal before e rest refl }

  -- what is said of an entry that is wrong
  abbrev says : List Entry → Entry → Verdict
  says before e =
      if e.call.seq == next_seq before e.call.client then BadReply (length before + 1) (answer i ask (object_of i.facts before) e.call) else BadSeq (length before + 1) (next_seq before e.call.client)

  -- the first wrong entry of a history, and what is said of it
  record HasWrong (history : List Entry) (v : Verdict) : Type 0 where
    before : List Entry
    entry : Entry
    rest : List Entry
    is : history ≡ before ++ entry ∷ rest
    right : IsRight i ask before
    wrong : IsRightAt before entry → ⊥
    said : v ≡ says before entry

  bad_seq : (history : List Entry) (at next : ℕ) → IsVerdictOf i ask history (BadSeq at next) → HasWrong history (BadSeq at next)
  bad_seq history at next bad =
      let f = bad.0 in
      let apart : (f.entry.call.seq == next_seq f.before f.entry.call.client) ≡ false = other_test f.entry.call.seq (next_seq f.before f.entry.call.client) (λ same. bad.2 (same ∙ sym bad.1)) in
      record {
        before = f.before;
        entry = f.entry;
        rest = f.rest;
        is = f.is;
        right = f.right;
        wrong = λ right. bad.2 (right.seq ∙ sym bad.1);
        said = ap (λ n. BadSeq n next) f.place ∙ ap (λ n. BadSeq (length f.before + 1) n) bad.1
            ∙ sym (ap (λ b. cond b (BadReply (length f.before + 1) (answer i ask (object_of i.facts f.before) f.entry.call)) (BadSeq (length f.before + 1) (next_seq f.before f.entry.call.client))) apart);
      }

  bad_reply : (history : List Entry) (at : ℕ) (answered : Option Reply) → IsVerdictOf i ask history (BadReply at answered) → HasWrong history (BadReply at answered)
  bad_reply history at answered bad =
      let f = bad.0 in
      let same : (f.entry.call.seq == next_seq f.before f.entry.call.client) ≡ true = same_test f.entry.call.seq (next_seq f.before f.entry.call.client) bad.1 in
      record {
        before = f.before;
        entry = f.entry;
        rest = f.rest;
        is = f.is;
        right = f.right;
        wrong = λ right. bad.3 (bad.2 ∙ right.reply);
        said = ap (λ n. BadReply n answered) f.place ∙ ap (λ a. BadReply (length f.before + 1) a) bad.2
            ∙ sym (ap (λ b. cond b (BadReply (length f.before + 1) (answer i ask (object_of i.facts f.before) f.entry.call)) (BadSeq (length f.before + 1) (next_seq f.before f.entry.call.client))) same);
      }

  none_wrong : (history : List Entry) (v : Verdict) → IsRight i ask history → HasWrong history v → ⊥
  none_wrong history v right w = w.wrong (right_at w.before w.entry w.rest (subst (IsRight i ask) w.is right))

  same_wrong : (history : List Entry) (v w : Verdict) → HasWrong history v → HasWrong history w → v ≡ w
  same_wrong history v w one other = elim (which one.before one.entry one.rest other.before other.entry other.rest (sym one.is ∙ other.is)) [
    | inl same ↦ one.said ∙ ap (λ b. says b one.entry) (sym same.front) ∙ ap (says other.before) (sym same.own) ∙ sym other.said
    | inr (inl earlier) ↦ absurd (one.wrong (right_at one.before one.entry earlier.mid (subst (IsRight i ask) earlier.is other.right)))
    | inr (inr earlier) ↦ absurd (other.wrong (right_at other.before other.entry earlier.mid (subst (IsRight i ask) earlier.is one.right)))
  ]

  pub one_said : (history : List Entry) (v w : Verdict) → IsVerdictOf i ask history v → IsVerdictOf i ask history w → v ≡ w
  one_said history Legal Legal one other = refl
  one_said history Legal (BadSeq at next) one other = absurd (none_wrong history (BadSeq at next) one (bad_seq history at next other))
  one_said history Legal (BadReply at a) one other = absurd (none_wrong history (BadReply at a) one (bad_reply history at a other))
  one_said history (BadSeq at next) Legal one other = absurd (none_wrong history (BadSeq at next) other (bad_seq history at next one))
  one_said history (BadReply at a) Legal one other = absurd (none_wrong history (BadReply at a) other (bad_reply history at a one))
  one_said history (BadSeq at next) (BadSeq at' next') one other = same_wrong history (BadSeq at next) (BadSeq at' next') (bad_seq history at next one) (bad_seq history at' next' other)
  one_said history (BadSeq at next) (BadReply at' a) one other = same_wrong history (BadSeq at next) (BadReply at' a) (bad_seq history at next one) (bad_reply history at' a other)
  one_said history (BadReply at a) (BadSeq at' next) one other = same_wrong history (BadReply at a) (BadSeq at' next) (bad_reply history at a one) (bad_seq history at' next other)
  one_said history (BadReply at a) (BadReply at' a') one other = same_wrong history (BadReply at a) (BadReply at' a') (bad_reply history at a one) (bad_reply history at' a' other)
