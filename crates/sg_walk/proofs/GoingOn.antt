-- Walks from a creation that go on, one call after another, to where none came before.
use Rattle.std.proofs.Common.{◌≡◌, ◌⊎◌, ℕ, ◌+◌, ◌*◌, ◌<◌, ◌≤◌, ◌^◌, true, false, List, [], ◌∷◌, ◌++◌, length, get_or, None, Some, refl, sym, ◌∙◌, ap, subst, inl, inr, arith}
use Rattle.std.specs.Prelude.{if◌then◌else◌, slice_get}
use Rattle.std.specs.List.{Contains}
use Rattle.std.proofs.lemmas.Bool.{cases_Bool, cases_lt}
use Rattle.std.proofs.lemmas.List.{length_push}
use Rattle.std.proofs.lemmas.List.Elements.{Contains-append_left, Contains-get_or, Contains-push, Contains-push_cases}
use Rattle.std.proofs.lemmas.List.Quantifiers.{all_pairs_push}
use Rattle.std.proofs.lemmas.Option.{slice_get-get_or, slice_get_within, get_or_from_slice_get}
use Rattle.sg_facts.specs.Interface.{Declared}
use Rattle.sg_facts.specs.Walks.{Spot as Place, begin_of, first_spot, next_spot, spot_from, spot_of}
use Rattle.sg_facts.specs.Inside.Walking.{may_begin, may_go_on}
use Rattle.sg_walk.specs.declared.spot.Spot.{Spot}
use Rattle.sg_walk.specs.Inside.Spots.{shown}
use Rattle.sg_walk.specs.Inside.Arrivals.{AddsArrival, AddsBy, AreArrivals, AreFound, Arrives, IsBefore, IsFollowed, IsLedBy, order_after, order_of}
use Rattle.sg_walk.proofs.Orders.{order_more, order_rises, stuck, undeclared, zero_undeclared}
use Rattle.sg_walk.proofs.ReachedStates.Closure.{ended, get_before, one_value}
use Rattle.sg_walk.proofs.ReachedStates.Marks.{itself, only}

-- ---- one call more

-- where a walk leads that goes on
spot_more : (i : Declared) (s t : Place) (walk : List ℕ) (fun : ℕ) → spot_from i s walk ≡ Some t → may_go_on i t fun ≡ true
    → spot_from i s (walk ++ fun ∷ []) ≡ Some (next_spot i.facts fun t)
spot_more i s t [] fun leads goes =
    let same : s ≡ t = one_value s t leads in
    let one : spot_from i t (fun ∷ []) ≡ Some (next_spot i.facts fun t) = ap (λ b. if b then Some (next_spot i.facts fun t) else None) goes in
    subst (λ p. spot_from i p (fun ∷ []) ≡ Some (next_spot i.facts fun t)) (sym same) one
spot_more i s t (f ∷ walk) fun leads goes = elim (cases_Bool (may_go_on i s f)) [
  | inl on ↦
      let rest : spot_from i (next_spot i.facts f s) walk ≡ Some t = rw on at leads in
      ap (λ b. if b then spot_from i (next_spot i.facts f s) (walk ++ fun ∷ []) else None) on ∙ spot_more i (next_spot i.facts f s) t walk fun rest goes
  | inr halts ↦ let nowhere : None ≡ Some t = rw halts at leads in absurd (cc nowhere)
]

led_on : (i : Declared) (made fun : ℕ) (spot next : Spot) (walk : List ℕ) → IsLedBy i made spot walk → may_go_on i (shown i spot) fun ≡ true
    → shown i next ≡ next_spot i.facts fun (shown i spot) → length walk < 8 → IsLedBy i made next (walk ++ fun ∷ [])
led_on i made fun spot next [] led goes shows few = let nowhere : None ≡ Some (shown i spot) = led.leads in absurd (cc nowhere)
led_on i made fun spot next (m ∷ walk) led goes shows few = record {
  leads = by (cases_Bool (may_begin i m)) ∙ ap Some (sym shows);
  begins = led.begins;
  short = omega (arith, length_push (m ∷ walk) fun, few);
}
  where
    by : (may_begin i m ≡ true) ⊎ (may_begin i m ≡ false) → spot_of i (m ∷ (walk ++ fun ∷ [])) ≡ Some (next_spot i.facts fun (shown i spot))
    by (inl on) =
        let rest : spot_from i (first_spot i.facts m) walk ≡ Some (shown i spot) = rw on at led.leads in
        ap (λ b. if b then spot_from i (first_spot i.facts m) (walk ++ fun ∷ []) else None) on
        ∙ spot_more i (first_spot i.facts m) (shown i spot) walk fun rest goes
    by (inr halts) = let nowhere : None ≡ Some (shown i spot) = rw halts at led.leads in absurd (cc nowhere)

-- ---- arrivals, of which there are more

arrives_more : (i : Declared) (old new : List (Spot × List ℕ)) (s : Place) (calls last : ℕ) → ((x : Spot × List ℕ) → Contains old x → Contains new x)
    → Arrives i old s calls last → Arrives i new s calls last
arrives_more i old new s calls last keeps a = record { spot = a.spot; walk = a.walk; among = keeps (a.spot, a.walk) a.among; is = a.is; short = a.short; early = a.early }

arrives_later : (i : Declared) (found : List (Spot × List ℕ)) (s : Place) (calls last c l : ℕ) → Arrives i found s calls last → calls ≤ c → last ≤ l → Arrives i found s c l
arrives_later i found s calls last c l a more later =
    let short = a.short in
    let early = a.early in
    record { spot = a.spot; walk = a.walk; among = a.among; is = a.is; short = omega (arith, short, more); early = omega (arith, early, later) }

-- at one place stands one arrival
same_arrival : (found : List (Spot × List ℕ)) (at : ℕ) (a b : Spot × List ℕ) → slice_get found at ≡ Some a → slice_get found at ≡ Some b → b ≡ a
same_arrival found at a b here there = one_value b a (sym there ∙ here)

module _ (i : Declared) (made done fun : ℕ) (spot : Spot) (walk : List ℕ) (old : List (Spot × List ℕ)) (at : slice_get old done ≡ Some (spot, walk)) (was : AreFound i made done fun old) where
  -- where the function leads was found already, or it leads nowhere
  tried_same : IsFollowed i old spot walk fun → AreFound i made done (fun + 1) old
  tried_same now = record {
    led = was.led;
    ordered = was.ordered;
    begun = was.begun;
    followed = was.followed;
    tried = λ s w here f less. elim (cases_lt f fun) [
      | inl before ↦ was.tried s w here f before
      | inr last ↦
          let e : f ≡ fun = omega (arith, last, less) in
          let same : (s, w) ≡ (spot, walk) = same_arrival old done (spot, walk) (s, w) at here in
          let this : IsFollowed i old s w fun = subst (λ a. IsFollowed i old a.0 a.1 fun) (sym same) now in
          subst (IsFollowed i old s w) (sym e) this
    ];
    bound = λ s w here other has. let b = was.bound s w here other has in (omega (arith, b.0), b.1);
  }

  stands : done < length old
  stands = slice_get_within old done (spot, walk) at

  -- those that are known come before where the function leads
  before_next : (other : Spot × List ℕ) → Contains old other → (order_of other.1 < 33 * order_of walk + fun) × (length other.1 ≤ length walk + 1)
  before_next other has = was.bound spot walk at other has

  module _ (next : Spot) (goes : may_go_on i (shown i spot) fun ≡ true) (shows : shown i next ≡ next_spot i.facts fun (shown i spot)) where
    -- some walk had come there
    tried_known : (w : List ℕ) → Contains old (next, w) → AreFound i made done (fun + 1) old
    tried_known w has =
        let b = before_next (next, w) has in
        tried_same (λ go. record { spot = next; walk = w; among = has; is = shows; short = b.1; early = omega (arith, b.0) })

    keeps : (x : Spot × List ℕ) → Contains old x → Contains (old ++ (next, walk ++ fun ∷ []) ∷ []) x
    keeps x has = Contains-append_left old ((next, walk ++ fun ∷ []) ∷ []) x has

    -- none had
    tried_new : length walk < 8 → AreFound i made done (fun + 1) (old ++ (next, walk ++ fun ∷ []) ∷ [])
    tried_new few =
        let order : order_of (walk ++ fun ∷ []) ≡ 33 * order_of walk + fun = order_more 0 walk fun in
        let long : length (walk ++ fun ∷ []) ≡ length walk + 1 = length_push walk fun in
        let own : IsLedBy i made spot walk = was.led spot walk (done, stands, get_or_from_slice_get old done (spot, walk) (spot, walk) at) in
        record {
          led = λ s w has. elim (Contains-push_cases old (next, walk ++ fun ∷ []) (s, w) has) [
            | inl before ↦ was.led s w before
            | inr same ↦ subst (λ a. IsLedBy i made a.0 a.1) same (led_on i made fun spot next walk own goes shows few)
          ];
          ordered = all_pairs_push IsBefore old (next, walk ++ fun ∷ []) was.ordered (λ k d within.
              let b = before_next (get_or old k d) (Contains-get_or old k d within) in (omega (arith, b.0, order), omega (arith, b.1, long)));
          begun = arrives_more i old (old ++ (next, walk ++ fun ∷ []) ∷ []) _ _ _ keeps was.begun;
          followed = λ k s w less here short f go.
              let within : k < length old = let st = stands in omega (arith, less, st) in
              let there : slice_get old k ≡ Some (s, w) = sym (get_before old ((next, walk ++ fun ∷ []) ∷ []) k within) ∙ here in
              arrives_more i old (old ++ (next, walk ++ fun ∷ []) ∷ []) _ _ _ keeps (was.followed k s w less there short f go);
          tried = λ s w here f less.
              let there : slice_get old done ≡ Some (s, w) = sym (get_before old ((next, walk ++ fun ∷ []) ∷ []) done stands) ∙ here in
              elim (cases_lt f fun) [
                | inl before ↦ λ go. arrives_more i old (old ++ (next, walk ++ fun ∷ []) ∷ []) _ _ _ keeps (was.tried s w there f before go)
                | inr last ↦
                    let e : f ≡ fun = omega (arith, last, less) in
                    let same : (s, w) ≡ (spot, walk) = same_arrival old done (spot, walk) (s, w) at there in
                    let now : IsFollowed i (old ++ (next, walk ++ fun ∷ []) ∷ []) spot walk fun = λ go. record {
                      spot = next;
                      walk = walk ++ fun ∷ [];
                      among = Contains-push old (next, walk ++ fun ∷ []);
                      is = shows;
                      short = omega (arith, long);
                      early = omega (arith, order);
                    } in
                    let this : IsFollowed i (old ++ (next, walk ++ fun ∷ []) ∷ []) s w fun = subst (λ a. IsFollowed i (old ++ (next, walk ++ fun ∷ []) ∷ []) a.0 a.1 fun) (sym same) now in
                    subst (IsFollowed i (old ++ (next, walk ++ fun ∷ []) ∷ []) s w) (sym e) this
              ];
          bound = λ s w here other has.
              let there : slice_get old done ≡ Some (s, w) = sym (get_before old ((next, walk ++ fun ∷ []) ∷ []) done stands) ∙ here in
              elim (Contains-push_cases old (next, walk ++ fun ∷ []) other has) [
                | inl before ↦ let b = was.bound s w there other before in (omega (arith, b.0), b.1)
                | inr last ↦
                    let same : (s, w) ≡ (spot, walk) = same_arrival old done (spot, walk) (s, w) at there in
                    let now : (order_of (walk ++ fun ∷ []) < 33 * order_of walk + (fun + 1)) × (length (walk ++ fun ∷ []) ≤ length walk + 1) = (omega (arith, order), omega (arith, long)) in
                    let this : (order_of (walk ++ fun ∷ []) < 33 * order_of w + (fun + 1)) × (length (walk ++ fun ∷ []) ≤ length w + 1) =
                    subst (λ a. (order_of (walk ++ fun ∷ []) < 33 * order_of a.1 + (fun + 1)) × (length (walk ++ fun ∷ []) ≤ length a.1 + 1)) (sym same) now in
                    subst (λ a. (order_of a.1 < 33 * order_of w + (fun + 1)) × (length a.1 ≤ length w + 1)) last this
              ];
        }

    tried_by : (new : List (Spot × List ℕ)) → length walk < 8 → AddsArrival old new next (walk ++ fun ∷ []) → AreFound i made done (fun + 1) new × (slice_get new done ≡ Some (spot, walk))
    tried_by new few (inl (w, has, same)) = subst (λ l. AreFound i made done (fun + 1) l × (slice_get l done ≡ Some (spot, walk))) (sym same) (tried_known w has, at)
    tried_by new few (inr longer) =
        subst (λ l. AreFound i made done (fun + 1) l × (slice_get l done ≡ Some (spot, walk))) (sym longer)
        (tried_new few, get_before old ((next, walk ++ fun ∷ []) ∷ []) done stands ∙ at)

  -- one function more was tried
  pub tried_more : (new : List (Spot × List ℕ)) → length walk < 8 → AddsBy i spot walk fun old new → AreFound i made done (fun + 1) new × (slice_get new done ≡ Some (spot, walk))
  tried_more new few (inl (halts, same)) =
      subst (λ l. AreFound i made done (fun + 1) l × (slice_get l done ≡ Some (spot, walk))) (sym same) (tried_same (λ go. absurd (cc (go, halts))), at)
  tried_more new few (inr (next, goes, shows, adds)) = tried_by next goes shows new few adds

-- ---- arrival after arrival

-- no function from 1 to 32 is left to be tried
pub all_tried : (i : Declared) (made done fun : ℕ) (spot : Spot) (walk : List ℕ) (found : List (Spot × List ℕ)) → i.declared < 2 ^ 32 → 33 ≤ fun → slice_get found done ≡ Some (spot, walk)
    → AreFound i made done fun found → (f : ℕ) → IsFollowed i found spot walk f
all_tried i made done fun spot walk found small past at was f goes = elim (cases_lt f 33) [
  | inl low ↦ was.tried spot walk at f (omega (arith, low, past)) goes
  | inr high ↦ let halts : may_go_on i (shown i spot) f ≡ false = stuck i (shown i spot) f (undeclared i f small high) in absurd (cc (goes, halts))
]

-- the next arrival is due
pub passed : (i : Declared) (made done fun : ℕ) (spot : Spot) (walk : List ℕ) (found : List (Spot × List ℕ)) → fun ≤ 33 → slice_get found done ≡ Some (spot, walk)
    → (length walk < 8 → (f : ℕ) → IsFollowed i found spot walk f) → AreFound i made done fun found → AreFound i made (done + 1) 1 found
passed i made done fun spot walk found few at all was = record {
  led = was.led;
  ordered = was.ordered;
  begun = was.begun;
  followed = λ k s w less here. elim (cases_lt k done) [
    | inl before ↦ was.followed k s w before here
    | inr last ↦
        let e : k ≡ done = omega (arith, last, less) in
        let there : slice_get found done ≡ Some (s, w) = subst (λ n. slice_get found n ≡ Some (s, w)) e here in
        let same : (s, w) ≡ (spot, walk) = same_arrival found done (spot, walk) (s, w) at there in
        subst (λ a. length a.1 < 8 → (f : ℕ) → IsFollowed i found a.0 a.1 f) (sym same) all
  ];
  tried = λ s w here f less goes. let halts : may_go_on i (shown i s) f ≡ false = stuck i (shown i s) f (zero_undeclared i f less) in absurd (cc (goes, halts));
  bound = λ s w here other has.
      let b = was.bound spot walk at other has in
      let next : get_or found (done + 1) (spot, walk) ≡ (s, w) = get_or_from_slice_get found (done + 1) (s, w) (spot, walk) here in
      let this : get_or found done (spot, walk) ≡ (spot, walk) = get_or_from_slice_get found done (spot, walk) (spot, walk) at in
      let placed : IsBefore (get_or found done (spot, walk)) (get_or found (done + 1) (spot, walk)) = was.ordered done (done + 1) (spot, walk) (omega arith) (slice_get_within found (done + 1) (s, w) here) in
      let before : IsBefore (spot, walk) (s, w) = subst (λ a. IsBefore a (s, w)) this (subst (IsBefore (get_or found done (spot, walk))) next placed) in
      (omega (arith, b.0, before.0, few), omega (arith, b.1, before.1));
}

-- the first arrival is where the creation leads
found_first : (i : Declared) (made : ℕ) (spot : Spot) → may_begin i made ≡ true → shown i spot ≡ first_spot i.facts made → AreFound i made 0 1 ((spot, made ∷ []) ∷ [])
found_first i made spot begins shows = record {
  led = λ s w has. subst (λ a. IsLedBy i made a.0 a.1) (sym (only (spot, made ∷ []) (s, w) has)) (record {
    leads = ap (λ b. if b then Some (first_spot i.facts made) else None) begins ∙ ap Some (sym shows);
    begins = refl;
    short = omega arith;
  });
  ordered = λ a b d less within. absurd (omega (arith, less, within));
  begun = record { spot = spot; walk = made ∷ []; among = itself (spot, made ∷ []); is = shows; short = omega arith; early = omega arith };
  followed = λ at s w less. absurd (omega (arith, less));
  tried = λ s w here f less goes. let halts : may_go_on i (shown i s) f ≡ false = stuck i (shown i s) f (zero_undeclared i f less) in absurd (cc (goes, halts));
  bound = λ s w here other has.
      let mine : (s, w) ≡ (spot, made ∷ []) = one_value (s, w) (spot, made ∷ []) (sym here) in
      let its : other ≡ (spot, made ∷ []) = only (spot, made ∷ []) other has in
      let now : (order_of (made ∷ []) < 33 * order_of (made ∷ []) + 1) × (length (made ∷ []) ≤ length (made ∷ []) + 1) = (omega arith, omega arith) in
      let this : (order_of (made ∷ []) < 33 * order_of w + 1) × (length (made ∷ []) ≤ length w + 1) =
      subst (λ a. (order_of (made ∷ []) < 33 * order_of a.1 + 1) × (length (made ∷ []) ≤ length a.1 + 1)) (sym mine) now in
      subst (λ a. (order_of a.1 < 33 * order_of w + 1) × (length a.1 ≤ length w + 1)) (sym its) this;
}

pub first_added : (i : Declared) (made : ℕ) (spot : Spot) (walk : List ℕ) (old new : List (Spot × List ℕ)) → may_begin i made ≡ true → shown i spot ≡ first_spot i.facts made
    → walk ≡ made ∷ [] → old ≡ [] → AddsArrival old new spot walk → AreFound i made 0 1 new
first_added i made spot walk old new begins shows alone none (inl (w, has, same)) =
    let nowhere : Contains [] (spot, w) = subst (λ l. Contains l (spot, w)) none has in
    absurd (omega (arith, nowhere.1))
first_added i made spot walk old new begins shows alone none (inr longer) =
    let whole : new ≡ (spot, made ∷ []) ∷ [] = longer ∙ ap (λ l. l ++ (spot, walk) ∷ []) none ∙ ap (λ w. (spot, w) ∷ []) alone in
    subst (AreFound i made 0 1) (sym whole) (found_first i made spot begins shows)

-- ---- all arrivals

module _ (i : Declared) (found : List (Spot × List ℕ)) (complete : (spot : Spot) (walk : List ℕ) → Contains found (spot, walk) → length walk < 8 → (f : ℕ) → IsFollowed i found spot walk f) where
  -- wherever calls lead from an arrival, a walk came that is no later
  walks_on : (spot : Spot) (walk : List ℕ) (rest : List ℕ) (t : Place) → Contains found (spot, walk) → length walk + length rest ≤ 8 → spot_from i (shown i spot) rest ≡ Some t
      → Arrives i found t (length walk + length rest) (order_after (order_of walk) rest)
  walks_on spot walk [] t has few leads = record { spot = spot; walk = walk; among = has; is = one_value (shown i spot) t leads; short = omega arith; early = omega arith }
  walks_on spot walk (f ∷ rest) t has few leads = elim (cases_Bool (may_go_on i (shown i spot) f)) [
    | inl goes ↦
        let onward : spot_from i (next_spot i.facts f (shown i spot)) rest ≡ Some t = rw goes at leads in
        let a : Arrives i found (next_spot i.facts f (shown i spot)) (length walk + 1) (33 * order_of walk + f) = complete spot walk has (omega (arith, few)) f goes in
        let short = a.short in
        let on : Arrives i found t (length a.walk + length rest) (order_after (order_of a.walk) rest) =
        walks_on a.spot a.walk rest t a.among (omega (arith, few, short)) (subst (λ p. spot_from i p rest ≡ Some t) (sym a.is) onward) in
        arrives_later i found t (length a.walk + length rest) (order_after (order_of a.walk) rest) (length walk + length (f ∷ rest)) (order_after (order_of walk) (f ∷ rest)) on
        (omega (arith, short)) (order_rises (order_of a.walk) (33 * order_of walk + f) rest a.early)
    | inr halts ↦ let nowhere : None ≡ Some t = rw halts at leads in absurd (cc nowhere)
  ]

  all_arrive : (made : ℕ) → Arrives i found (first_spot i.facts made) 1 (order_of (made ∷ [])) → (walk : List ℕ) (s : Place) → begin_of walk ≡ made → length walk ≤ 8 → spot_of i walk ≡ Some s
      → Arrives i found s (length walk) (order_of walk)
  all_arrive made begun [] s begin short leads = absurd (cc leads)
  all_arrive made begun (m ∷ rest) s begin short leads = by (cases_Bool (may_begin i m))
    where
      by : (may_begin i m ≡ true) ⊎ (may_begin i m ≡ false) → Arrives i found s (length (m ∷ rest)) (order_of (m ∷ rest))
      by (inl goes) =
          let onward : spot_from i (first_spot i.facts m) rest ≡ Some s = rw goes at leads in
          let from : first_spot i.facts m ≡ shown i begun.spot = ap (first_spot i.facts) begin ∙ sym begun.is in
          let few = begun.short in
          let early : order_of begun.walk ≤ 33 * 0 + made = begun.early in
          let on : Arrives i found s (length begun.walk + length rest) (order_after (order_of begun.walk) rest) =
          walks_on begun.spot begun.walk rest s begun.among (omega (arith, short, few)) (subst (λ p. spot_from i p rest ≡ Some s) from onward) in
          arrives_later i found s (length begun.walk + length rest) (order_after (order_of begun.walk) rest) (length (m ∷ rest)) (order_of (m ∷ rest)) on
          (omega (arith, few)) (order_rises (order_of begun.walk) (33 * 0 + m) rest (omega (arith, early, begin)))
      by (inr halts) = let nowhere : None ≡ Some s = rw halts at leads in absurd (cc nowhere)

-- no arrival is left
pub all_found : (i : Declared) (made done fun : ℕ) (found : List (Spot × List ℕ)) → slice_get found done ≡ None → AreFound i made done fun found → AreArrivals i made found
all_found i made done fun found none was =
    let past : length found ≤ done = ended found done none in
    record {
      led = was.led;
      ordered = was.ordered;
      all = all_arrive i found (λ spot walk (k, within, is). was.followed k spot walk (omega (arith, past, within)) (slice_get-get_or found k (spot, walk) within ∙ ap Some is)) made was.begun;
    }

-- where no walk begins, none leads anywhere
pub none_found : (i : Declared) (made : ℕ) (found : List (Spot × List ℕ)) → found ≡ [] → may_begin i made ≡ false → AreArrivals i made found
none_found i made found none halts = subst (AreArrivals i made) (sym none) (record {
  led = λ s w (k, within, is). absurd (omega (arith, within));
  ordered = λ a b d less within. absurd (omega (arith, within));
  all = nowhere;
})
  where
    nowhere : (walk : List ℕ) (s : Place) → begin_of walk ≡ made → length walk ≤ 8 → spot_of i walk ≡ Some s → Arrives i [] s (length walk) (order_of walk)
    nowhere [] s begin short leads = absurd (cc leads)
    nowhere (m ∷ rest) s begin short leads =
        let stops : may_begin i m ≡ false = ap (may_begin i) begin ∙ halts in
        let no_spot : None ≡ Some s = rw stops at leads in
        absurd (cc no_spot)
