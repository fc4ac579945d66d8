-- An item of a client's next call is of no entry, and neither is what rebuilds or loads.
use Rattle.std.proofs.Common.{◌≡◌, ℕ, ◌<◌, ◌≤◌, Bool, true, false, ◌&&◌, List, [], ◌∷◌, refl, sym, ◌∙◌, ap, inl, inr, arith}
use Rattle.std.specs.Prelude.{◌==◌}
use Rattle.std.proofs.lemmas.Bool.Decides.{eqb_tells}
use Rattle.sg_facts.specs.sg_base.Lists.{Each}
use Rattle.sg_facts.specs.declared.entry.Entry.{Entry}
use Rattle.sg_facts.specs.declared.trace.Item.{Item}
use Rattle.sg_facts.specs.declared.trace.Tag.{Tag}
use Rattle.sg_facts.specs.declared.trace.Tag.TheVariants.{Walk, Load, Client}
use Rattle.sg_recovery_laws.specs.sg_hist.Reading.{is_tagged}
use Rattle.sg_recovery_laws.specs.sg_hist.Recovered.{is_clients}
use Rattle.sg_recovery_laws.specs.sg_hist.Growing.{IsOfNoEntry}
use Rattle.sg_facts.proofs.Replaying.Found.{other_test, same_test}

pub test_same : (m n : ℕ) → (m == n) ≡ true → m ≡ n
test_same m n is = elim (eqb_tells m n) [ inl same ↦ same.1 | inr apart ↦ absurd (cc (is, apart.0)) ]

-- the call of a tag is of its client and number
pub own_tag : (client seq : ℕ) → is_tagged client seq (Client client seq) ≡ true
own_tag client seq = ap (λ b. b && (seq == seq)) (same_test client client refl) ∙ same_test seq seq refl

-- so an item of a greater number is of none
pub none_of_next : (item : Item) (client seq last : ℕ) (history : List Entry) → item.tag ≡ Client client seq → last < seq → Each (λ e. (e.call.client == client) ≡ true → e.call.seq ≤ last) history → IsOfNoEntry item history
none_of_next item client seq last [] tag more all = tt
none_of_next item client seq last (e ∷ history) tag more all =
    (ap (λ t. is_tagged e.call.client e.call.seq t) tag ∙ by (client == e.call.client) refl, none_of_next item client seq last history tag more all.1)
  where
    by : (b : Bool) → (client == e.call.client) ≡ b → (b && (seq == e.call.seq)) ≡ false
    by false is = refl
    by true is =
        let own : (e.call.client == client) ≡ true = (let same : client ≡ e.call.client = test_same client e.call.client is in ap (λ n. n == client) (sym same) ∙ ap (λ n. client == n) same ∙ is) in
        other_test seq e.call.seq (λ same. omega (arith, same, more, all.0 own))

-- what rebuilds or loads is of no client's call
pub stub_tagged : (client seq : ℕ) (tag : Tag) → is_clients tag ≡ false → is_tagged client seq tag ≡ false
stub_tagged client seq (Walk id k c) is = refl
stub_tagged client seq (Load key c) is = refl
stub_tagged client seq (Client c n) is = absurd (cc is)

pub none_of_stub : (item : Item) (history : List Entry) → is_clients item.tag ≡ false → IsOfNoEntry item history
none_of_stub item [] stub = tt
none_of_stub item (e ∷ history) stub = (stub_tagged e.call.client e.call.seq item.tag stub, none_of_stub item history stub)
