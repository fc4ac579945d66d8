-- A client's calls over several members, where an entry is made and where a reply is handed over.
use Rattle.std.proofs.Common.{◌≡◌, ◌≢◌, ℕ, zero, suc, ◌+◌, ◌-◌, ◌≤◌, true, false, List, [], ◌∷◌, ◌++◌, Some, length, map, take, refl, sym, ◌∙◌, ap, subst, arith, length-append}
use Rattle.std.specs.Prelude.{slice_get}
use Rattle.std.proofs.lemmas.List.{map-append}
use Rattle.sg_facts.specs.sg_base.declared.call.Call.{Call}
use Rattle.sg_facts.specs.declared.entry.Entry.{Entry}
use Rattle.sg_facts.specs.Interface.{Declared}
use Rattle.sg_multi.proofs.sg_sim.sg_play.sg_plain.Playing.Resolving.{resolved_more, resolved_on}
use Rattle.sg_multi.specs.sg_sim.sg_plain.Playing.Callers.{is_receipted}
use Rattle.sg_multi.specs.sg_sim.sg_plain.Playing.Given.{GaveIds}
use Rattle.sg_multi.specs.sg_sim.sg_plain.Script.{call_fits}
use Rattle.sg_multi.specs.sg_sim.sg_play.sg_hist.Inside.Reads.{desc_of}
use Rattle.sg_multi.specs.sg_sim.sg_script.declared.multi.MultiCall.{MultiCall}
use Rattle.sg_multi.specs.sg_sim.sg_script.declared.multi.MultiScript.{MultiScript}
use Rattle.sg_multi.specs.sg_sim.sg_clients.WorldView.{Seat, is_offered}
use Rattle.sg_multi.specs.Calls.{AreFirstMultiCalls, IsCallOf, multi_calls}
use Rattle.sg_multi.specs.Inside.Callers.{IsSeatOf}
use Rattle.sg_multi.specs.Merged.{MultiEntry, entries_in, own_in}
use Rattle.sg_multi.specs.Playable.{AllFit, FitsMember}
use Rattle.sg_multi.proofs.Merging.{calls_in, entries_more, length_mapped}

-- ---- a call, where its client's entries are as they were

-- a call is what it was where its client has the same entries
pub call_same : (interfaces : List Declared) (merged now : List MultiEntry) (client : ℕ) (written : MultiCall) (member : ℕ) (call : Call) → own_in client now ≡ own_in client merged
    → IsCallOf interfaces merged client written member call → IsCallOf interfaces now client written member call
call_same interfaces merged now client written member call same is = record {
  iface = is.iface;
  its_member = is.its_member;
  there = is.there;
  is = is.is ∙ ap (λ own. resolved_on is.iface.facts own client call.seq written.call) (calls_in merged client ∙ sym (calls_in now client ∙ ap entries_in same));
}

pub first_same : (interfaces : List Declared) (merged now : List MultiEntry) (client : ℕ) (es : List MultiEntry) (calls : List MultiCall) → own_in client now ≡ own_in client merged
    → AreFirstMultiCalls interfaces merged client es calls → AreFirstMultiCalls interfaces now client es calls
first_same interfaces merged now client [] calls same are = tt
first_same interfaces merged now client (e ∷ es) [] same are = absurd are
first_same interfaces merged now client (e ∷ es) (c ∷ calls) same are = (call_same interfaces merged now client c e.member e.entry.call same are.0, first_same interfaces merged now client es calls same are.1)

-- ---- where its client has one entry more

-- the same interface stands at a place
same_there : (interfaces : List Declared) (m n : ℕ) (i j : Declared) → m ≡ n → slice_get interfaces (m - 1) ≡ Some i → slice_get interfaces (n - 1) ≡ Some j → j ≡ i
same_there interfaces m n i j same at bt = let both : Some j ≡ Some i = sym bt ∙ ap (λ k. slice_get interfaces (k - 1)) (sym same) ∙ at in cc both

-- a call with another number
abbrev numbered : Call → ℕ → Call
numbered c q = record c { seq = q }

-- `$k` of an earlier call is what it was
pub call_grown : (interfaces : List Declared) (merged now : List MultiEntry) (x : MultiEntry) (client number : ℕ) (written : MultiCall) (member : ℕ) (call : Call) → own_in client now ≡ own_in client merged ++ x ∷ []
    → number ≤ length (own_in client merged) + 1 → FitsMember interfaces number written → IsCallOf interfaces merged client written member call → IsCallOf interfaces now client written member call
call_grown interfaces merged now x client number written member call grown within fits is = record {
  iface = is.iface;
  its_member = is.its_member;
  there = is.there;
  is = is.is ∙ ap (λ c. numbered c call.seq) (sym (resolved_more is.iface (entries_in merged) (entries_in now) x.entry client number written.call
      (calls_in now client ∙ ap entries_in grown ∙ entries_more (own_in client merged) x ∙ ap (λ l. l ++ x.entry ∷ []) (sym (calls_in merged client)))
      (subst (λ n. number ≤ n + 1) (sym (ap (λ (l : List Entry). length l) (calls_in merged client) ∙ length_mapped (λ e. e.entry) (own_in client merged))) within)
      (subst (λ i. call_fits i number written.call ≡ true) (same_there interfaces member written.member is.iface fits.iface is.its_member is.there fits.there) fits.fits)));
}

pub first_grown : (interfaces : List Declared) (merged now : List MultiEntry) (x : MultiEntry) (client number : ℕ) (es : List MultiEntry) (calls : List MultiCall) → own_in client now ≡ own_in client merged ++ x ∷ []
    → number + length es ≤ length (own_in client merged) + 1 → AllFit interfaces number calls → AreFirstMultiCalls interfaces merged client es calls → AreFirstMultiCalls interfaces now client es calls
first_grown interfaces merged now x client number [] calls grown within fit are = tt
first_grown interfaces merged now x client number (e ∷ es) [] grown within fit are = absurd are
first_grown interfaces merged now x client number (e ∷ es) (c ∷ calls) grown within fit are = (
  call_grown interfaces merged now x client number c e.member e.entry.call grown (omega (arith, within)) fit.0 are.0,
  first_grown interfaces merged now x client (number + 1) es calls grown (omega (arith, within)) fit.1 are.1,
)

-- the next call is entered
pub first_more : (interfaces : List Declared) (merged : List MultiEntry) (client : ℕ) (es : List MultiEntry) (calls : List MultiCall) (x : MultiEntry) (written : MultiCall)
    → AreFirstMultiCalls interfaces merged client es calls → slice_get calls (length es) ≡ Some written → IsCallOf interfaces merged client written x.member x.entry.call
    → AreFirstMultiCalls interfaces merged client (es ++ x ∷ []) calls
first_more interfaces merged client [] [] x written are there is = absurd (cc there)
first_more interfaces merged client [] (c ∷ calls) x written are there is =
    let same : c ≡ written = cc there in (subst (λ w. IsCallOf interfaces merged client w x.member x.entry.call) (sym same) is, tt)
first_more interfaces merged client (e ∷ es) [] x written are there is = absurd are
first_more interfaces merged client (e ∷ es) (c ∷ calls) x written are there is = (are.0, first_more interfaces merged client es calls x written are.1 there is)

-- a call fits under its number
pub fits_at : (interfaces : List Declared) (number : ℕ) (calls : List MultiCall) (k : ℕ) (c : MultiCall) → AllFit interfaces number calls → slice_get calls k ≡ Some c → FitsMember interfaces (number + k) c
fits_at interfaces number [] k c fit there = absurd (cc there)
fits_at interfaces number (d ∷ calls) zero c fit there =
    let same : d ≡ c = cc there in
    subst (λ n. FitsMember interfaces n c) (let zero_more : number ≡ number + 0 = omega arith in zero_more) (subst (FitsMember interfaces number) same fit.0)
fits_at interfaces number (d ∷ calls) (suc k) c fit there = subst (λ n. FitsMember interfaces n c) (omega arith) (fits_at interfaces (number + 1) calls k c fit.1 there)

-- the entries are no more than the calls
pub no_more : (interfaces : List Declared) (merged : List MultiEntry) (client : ℕ) (es : List MultiEntry) (calls : List MultiCall) → AreFirstMultiCalls interfaces merged client es calls → length es ≤ length calls
no_more interfaces merged client [] calls are = omega arith
no_more interfaces merged client (e ∷ es) [] are = absurd are
no_more interfaces merged client (e ∷ es) (c ∷ calls) are = omega (arith, no_more interfaces merged client es calls are.1)

-- each of them is of the member of its call
pub at_its_member : (interfaces : List Declared) (merged : List MultiEntry) (client : ℕ) (front : List MultiEntry) (x : MultiEntry) (rest : List MultiEntry) (calls : List MultiCall) (written : MultiCall)
    → AreFirstMultiCalls interfaces merged client (front ++ x ∷ rest) calls → slice_get calls (length front) ≡ Some written → x.member ≡ written.member
at_its_member interfaces merged client [] x rest [] written are there = absurd (cc there)
at_its_member interfaces merged client [] x rest (c ∷ calls) written are there = let same : c ≡ written = cc there in are.0.its_member ∙ ap (λ w. w.member) same
at_its_member interfaces merged client (e ∷ front) x rest [] written are there = absurd are
at_its_member interfaces merged client (e ∷ front) x rest (c ∷ calls) written are there = at_its_member interfaces merged client front x rest calls written are.1 there

-- and so are those of a front
pub first_front : (interfaces : List Declared) (merged : List MultiEntry) (client : ℕ) (front rest : List MultiEntry) (calls : List MultiCall) → AreFirstMultiCalls interfaces merged client (front ++ rest) calls
    → AreFirstMultiCalls interfaces merged client front calls
first_front interfaces merged client [] rest calls are = tt
first_front interfaces merged client (e ∷ front) rest [] are = absurd are
first_front interfaces merged client (e ∷ front) rest (c ∷ calls) are = (are.0, first_front interfaces merged client front rest calls are.1)

-- ---- what was handed over

take_front : {T : Type 0} (xs ys : List T) (n : ℕ) → n ≤ length xs → take n (xs ++ ys) ≡ take n xs
take_front xs ys zero within = refl
take_front [] ys (suc n) within = absurd (omega (arith, within))
take_front (x ∷ xs) ys (suc n) within = ap (λ l. x ∷ l) (take_front xs ys n (omega (arith, within)))

take_whole : {T : Type 0} (xs : List T) (n : ℕ) → n ≡ length xs → take n xs ≡ xs
take_whole [] zero is = refl
take_whole [] (suc n) is = absurd (cc is)
take_whole (x ∷ xs) zero is = absurd (cc is)
take_whole (x ∷ xs) (suc n) is = ap (λ l. x ∷ l) (take_whole xs n (omega (arith, is)))

taken_few : {T : Type 0} (xs : List T) (n : ℕ) → length (take n xs) ≡ n → n ≤ length xs
taken_few xs zero is = omega arith
taken_few [] (suc n) is = absurd (cc is)
taken_few (x ∷ xs) (suc n) is = omega (arith, taken_few xs n (omega (arith, is)))

-- no more was handed over than there are entries
pub few_given : (es : List MultiEntry) (given : List ℕ) → GaveIds (take (length given) (entries_in es)) given → length given ≤ length es
few_given es given gave =
    let count : length (take (length given) (entries_in es)) ≡ length given = sym (length_mapped (λ (e : Entry). desc_of e.reply) (take (length given) (entries_in es))) ∙ ap (λ (l : List ℕ). length l) gave in
    subst (λ n. length given ≤ n) (length_mapped (λ e. e.entry) es) (taken_few (entries_in es) (length given) count)

-- nothing more is handed over
pub gave_same : (es : List MultiEntry) (x : MultiEntry) (given : List ℕ) → GaveIds (take (length given) (entries_in es)) given → GaveIds (take (length given) (entries_in (es ++ x ∷ []))) given
gave_same es x given gave =
    ap (map (λ e. desc_of e.reply)) (ap (take (length given)) (entries_more es x)
    ∙ take_front (entries_in es) (x.entry ∷ []) (length given) (subst (λ n. length given ≤ n) (sym (length_mapped (λ e. e.entry) es)) (few_given es given gave)))
    ∙ gave

-- what was handed over before the last
pub gave_front : (front : List MultiEntry) (x : MultiEntry) (given : List ℕ) → length front ≡ length given → GaveIds (take (length given) (entries_in (front ++ x ∷ []))) given
    → GaveIds (take (length given) (entries_in front)) given
gave_front front x given count gave =
    ap (map (λ e. desc_of e.reply)) (sym (ap (take (length given)) (entries_more front x)
    ∙ take_front (entries_in front) (x.entry ∷ []) (length given) (omega (arith, count, length_mapped (λ (e : MultiEntry). e.entry) front))))
    ∙ gave

-- the reply of the last entry is handed over
pub gave_last : (es : List MultiEntry) (x : MultiEntry) (given : List ℕ) (id : ℕ) → length es ≡ length given → GaveIds (take (length given) (entries_in es)) given → desc_of x.entry.reply ≡ id
    → GaveIds (take (length (given ++ id ∷ [])) (entries_in (es ++ x ∷ []))) (given ++ id ∷ [])
gave_last es x given id count gave its =
    let counted : length (entries_in es) ≡ length given = length_mapped (λ e. e.entry) es ∙ count in
    let whole : length (given ++ id ∷ []) ≡ length (entries_in (es ++ x ∷ [])) = length-append given (id ∷ []) ∙ ap (λ n. n + 1) (sym counted) ∙ sym (length-append (entries_in es) (x.entry ∷ [])) ∙ ap (λ (l : List Entry). length l) (sym (entries_more es x)) in
    ap (map (λ e. desc_of e.reply)) (take_whole (entries_in (es ++ x ∷ [])) (length (given ++ id ∷ [])) whole ∙ entries_more es x)
    ∙ map-append (λ (e : Entry). desc_of e.reply) (entries_in es) (x.entry ∷ [])
    ∙ ap (λ l. l ++ desc_of x.entry.reply ∷ []) (ap (map (λ e. desc_of e.reply)) (sym (take_whole (entries_in es) (length given) (sym counted))) ∙ gave)
    ∙ ap (λ d. given ++ d ∷ []) its

-- ---- seats

module _ (interfaces : List Declared) (script : MultiScript) (merged : List MultiEntry) (client : ℕ) (given : List ℕ) where
  -- a seat says what it said, where its client's call is under way as before and its entries are the same
  pub seat_goes_on : (now : List MultiEntry) (place : ℕ) (s later : Seat) → own_in client now ≡ own_in client merged → is_offered later.phase ≡ is_offered s.phase → is_receipted later.phase ≡ is_receipted s.phase
      → later.call ≡ s.call → IsSeatOf interfaces script merged client given place s → IsSeatOf interfaces script now client given place later
  seat_goes_on now place s later own offered receipted call is = record {
    offers = λ offers.
        let o = is.offers (sym offered ∙ offers) in
        record {
          all_given = ap (λ (l : List MultiEntry). length l) own ∙ o.all_given;
          written = o.written;
          next = o.next;
          its = subst (IsCallOf interfaces now client o.written (place + 1)) (sym call) (call_same interfaces merged now client o.written (place + 1) s.call own o.its);
        };
    receipt = λ has.
        let r = is.receipt (sym receipted ∙ has) in
        record { one_more = ap (λ (l : List MultiEntry). length l) own ∙ r.one_more; written = r.written; next = r.next; its_member = r.its_member };
  }

  -- a seat says nothing where its client has no call under way
  pub seat_free : (place : ℕ) (s : Seat) → is_offered s.phase ≡ false → is_receipted s.phase ≡ false → IsSeatOf interfaces script merged client given place s
  seat_free place s offered receipted = record {
    offers = λ offers. absurd (let both : true ≡ false = sym offers ∙ offered in cc both);
    receipt = λ has. absurd (let both : true ≡ false = sym has ∙ receipted in cc both);
  }

  -- a client that has a call under way at a place has none elsewhere
  same_call : (a b : MultiCall) → slice_get (multi_calls script client) (length given) ≡ Some a → slice_get (multi_calls script client) (length given) ≡ Some b → a.member ≡ b.member
  same_call a b at bt = let both : Some a ≡ Some b = sym at ∙ bt in let same : a ≡ b = cc both in ap (λ w. w.member) same

  pub offers_alone : (place other : ℕ) (s t : Seat) → place ≢ other → is_offered s.phase ≡ true → IsSeatOf interfaces script merged client given place s → IsSeatOf interfaces script merged client given other t
      → (is_offered t.phase ≡ true → ⊥) × (is_receipted t.phase ≡ true → ⊥)
  offers_alone place other s t apart offers is its =
      let o = is.offers offers in (
        λ also. let p = its.offers also in let same = o.its.its_member ∙ same_call o.written p.written o.next p.next ∙ sym p.its.its_member in apart (omega (arith, same)),
        λ has. let r = its.receipt has in omega (arith, o.all_given, r.one_more),
      )

  pub receipt_alone : (place other : ℕ) (s t : Seat) → place ≢ other → is_receipted s.phase ≡ true → IsSeatOf interfaces script merged client given place s → IsSeatOf interfaces script merged client given other t
      → (is_offered t.phase ≡ true → ⊥) × (is_receipted t.phase ≡ true → ⊥)
  receipt_alone place other s t apart has is its =
      let r = is.receipt has in (
        λ offers. let o = its.offers offers in omega (arith, o.all_given, r.one_more),
        λ also. let p = its.receipt also in let same = r.its_member ∙ same_call r.written p.written r.next p.next ∙ sym p.its_member in apart (omega (arith, same)),
      )
