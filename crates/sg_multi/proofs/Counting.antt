-- How many of a client's calls, over all members, are of one member.
use Rattle.std.proofs.Common.{◌≡◌, ℕ, zero, suc, ◌+◌, ◌≤◌, Some, Bool, true, false, cond, List, [], ◌∷◌, ◌++◌, filter, length, map, take, refl, sym, ◌∙◌, ap, arith}
use Rattle.std.specs.Prelude.{◌==◌, slice_get}
use Rattle.sg_facts.specs.Interface.{Declared}
use Rattle.sg_facts.specs.declared.entry.Entry.{Entry}
use Rattle.sg_multi.specs.Members.{Membered, view_in}
use Rattle.sg_multi.specs.sg_sim.sg_play.sg_hist.Clients.{calls_of}
use Rattle.sg_multi.specs.sg_sim.sg_script.declared.multi.MultiCall.{MultiCall}
use Rattle.sg_multi.specs.sg_sim.sg_script.declared.multi.MultiScript.{MultiScript}
use Rattle.sg_multi.specs.Calls.{AreFirstMultiCalls, setup_at}
use Rattle.sg_multi.specs.Inside.Asked.{calls_there}
use Rattle.sg_multi.specs.Inside.Keeps.{KeepsMulti}
use Rattle.sg_multi.specs.Merged.{MultiEntry, entries_at, own_in}
use Rattle.sg_multi.proofs.Merging.{calls_at, length_mapped, mapped_at}

-- a client's entries at a member are as many as its first calls there
pub as_many_there : (interfaces : List Declared) (merged : List MultiEntry) (client member : ℕ) (es : List MultiEntry) (calls : List MultiCall) → AreFirstMultiCalls interfaces merged client es calls
    → length (entries_at member es) ≡ length (calls_there member (take (length es) calls))
as_many_there interfaces merged client member [] calls are = refl
as_many_there interfaces merged client member (e ∷ es) [] are = absurd are
as_many_there interfaces merged client member (e ∷ es) (c ∷ calls) are =
    ap (λ b. length (map (λ (x : MultiEntry). x.entry) (cond b (e ∷ filter (λ x. x.member == member) es) (filter (λ x. x.member == member) es)))) (ap (λ n. n == member) are.0.its_member)
    ∙ by (c.member == member) (as_many_there interfaces merged client member es calls are.1)
  where
    by : (b : Bool) → length (entries_at member es) ≡ length (calls_there member (take (length es) calls))
        → length (map (λ (x : MultiEntry). x.entry) (cond b (e ∷ filter (λ x. x.member == member) es) (filter (λ x. x.member == member) es)))
        ≡ length (cond b (c ∷ calls_there member (take (length es) calls)) (calls_there member (take (length es) calls)))
    by true rest = ap suc rest
    by false rest = rest

-- those of a front are among the first ones
pub front_there : (member : ℕ) (front rest : List MultiCall) (n : ℕ) → length front ≤ n → length (calls_there member front) ≤ length (calls_there member (take n (front ++ rest)))
front_there member [] rest n within = omega arith
front_there member (c ∷ front) rest zero within = absurd (omega (arith, within))
front_there member (c ∷ front) rest (suc n) within = by (c.member == member) (front_there member front rest n (omega (arith, within)))
  where
    by : (b : Bool) → length (calls_there member front) ≤ length (calls_there member (take n (front ++ rest)))
        → length (cond b (c ∷ calls_there member front) (calls_there member front)) ≤ length (cond b (c ∷ calls_there member (take n (front ++ rest))) (calls_there member (take n (front ++ rest))))
    by true rest = omega (arith, rest)
    by false rest = rest

-- the setup's calls of a member are as many as those of the setup there
pub setup_there : (member : ℕ) (script : MultiScript) → length (setup_at member script).setup ≡ length (calls_there member script.setup)
setup_there member script = length_mapped (λ (c : MultiCall). c.call) (calls_there member script.setup)

-- a client's entries in the world of a member are its entries at that member
pub own_there : (members : List Membered) (script : MultiScript) (given : List (List ℕ)) (order : List ℕ) (is : KeepsMulti members script given order) (place client : ℕ) (m : Membered) → slice_get members place ≡ Some m
    → length (calls_of (view_in m).history client) ≡ length (entries_at (place + 1) (own_in client is.merged))
own_there members script given order is place client m there =
    ap (λ h. length (calls_of h client)) (sym (is.merges.each place (view_in m).history (mapped_at (λ (x : Membered). (view_in x).history) members place m there)))
    ∙ ap (λ (l : List Entry). length l) (calls_at is.merged (place + 1) client)
