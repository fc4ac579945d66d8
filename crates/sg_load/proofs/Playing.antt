-- A generated script is played, and its stops ascend.
use Rattle.std.proofs.Common.{◌≡◌, ◌⊎◌, inl, inr, ℕ, zero, suc, ◌+◌, ◌-◌, ◌*◌, ◌/◌, ◌%◌, ◌<◌, ◌≤◌, Bool, true, false, List, [], ◌++◌, length, refl, sym, ap, subst, arith, length-append}
use Rattle.std.specs.Prelude.{◌==◌, if◌then◌else◌}
use Rattle.std.proofs.lemmas.Bool.Decides.{eqb_tells}
use Rattle.sg_plain.specs.sg_edge.Stops.{AscendsAbove}
use Rattle.sg_facts.specs.Limits.{most_script_calls}
use Rattle.sg_load.specs.declared.kind.ServiceKind.{ServiceKind}
use Rattle.sg_load.specs.Drawn.{after_draws, drawn, stops_from}
use Rattle.sg_load.specs.Inside.{calls_each, calls_of_client, client_count, groups_of, most_distance, most_setup, setup_of, stop_count, upper}
use Rattle.sg_load.specs.Generated.{clients_from, generated, groups_from}
use Rattle.sg_plain.specs.sg_script.Flaws.{calls_before}
use Rattle.sg_load.specs.Services.{group_of, group_size, setup_count, standard}
use Rattle.sg_load.proofs.Repeats.{fit_both}
use Rattle.sg_load.proofs.Services.{group_fits, group_length, setup_few, setup_fits, setup_goes_on, setup_length, some_size}
use Rattle.sg_plain.specs.Calls.{part_of, script_calls}
use Rattle.sg_plain.specs.Script.{calls_fit}
use Rattle.sg_plain.specs.Playing.Playable.{AreClients, IsPlayable}
use Rattle.sg_plain.specs.sg_script.declared.script.ScriptCall.{ScriptCall}

-- ---- stops

pub stops_ascend : (x stop count : ℕ) → AscendsAbove stop (stops_from x stop count)
unfolding stops_from
stops_ascend x stop zero = tt
stops_ascend x stop (suc count) =
    let next = stop + (1 + upper (drawn x) % most_distance) in
    (omega arith, stops_ascend (drawn x) next count)

-- ---- groups

groups_fit : (service : ServiceKind) (client x first group count : ℕ) → 1 ≤ first
    → calls_fit (standard service) first (groups_from service client x first group count) ≡ true
unfolding groups_from
groups_fit service client x first group zero low = refl
groups_fit service client x first group (suc count) low =
    let i = standard service in
    let here = group_of service client first group (upper (drawn x)) in
    let rest = groups_from service client (drawn x) (first + group_size service) (group + 1) count in
    fit_both i first here rest (group_fits first low service client group (upper (drawn x)))
    (subst (λ m. calls_fit i (first + m) rest ≡ true) (sym (group_length service client first group (upper (drawn x))))
    (groups_fit service client (drawn x) (first + group_size service) (group + 1) count (omega (arith, low))))

groups_length : (service : ServiceKind) (client x first group count : ℕ) → length (groups_from service client x first group count) ≡ group_size service * count
unfolding groups_from
groups_length service client x first group zero = omega arith
groups_length service client x first group (suc count) =
    let here = group_of service client first group (upper (drawn x)) in
    let rest = groups_from service client (drawn x) (first + group_size service) (group + 1) count in
    let joined : length (here ++ rest) ≡ length here + length rest = length-append here rest in
    let one : length here ≡ group_size service = group_length service client first group (upper (drawn x)) in
    let others : length rest ≡ group_size service * count = groups_length service client (drawn x) (first + group_size service) (group + 1) count in
    omega (arith, joined, one, others)

-- ---- clients

-- a client's part is empty, or its calls from some state on
part_is : (service : ServiceKind) (c client x count : ℕ)
    → (part_of c (clients_from service client x count) ≡ []) ⊎ ((y : ℕ) × (part_of c (clients_from service client x count) ≡ calls_of_client service c y))
unfolding clients_from
part_is service c client x zero = inl refl
part_is service c client x (suc count) = elim (eqb_tells client c) [
  | inl same ↦ inr (x, rw (same.0) (ap (λ n. calls_of_client service n x) same.1))
  | inr other ↦ rw (other.0) (part_is service c (client + 1) (after_draws x (groups_of service client)) count)
]

clients_ascend : (service : ServiceKind) (client x count above : ℕ) → above < client → client + count ≤ 65 → AreClients above (clients_from service client x count)
unfolding clients_from
clients_ascend service client x zero above more most = tt
clients_ascend service client x (suc count) above more most =
    (more, omega (arith, most), clients_ascend service (client + 1) (after_draws x (groups_of service client)) count client (omega arith) (omega (arith, most)))

-- the calls before a client's groups
abbrev first_calls : ServiceKind → ℕ → List ScriptCall
first_calls service c = if c == 1 then setup_of service else []

first_fit : (service : ServiceKind) (c : ℕ) → calls_fit (standard service) 1 (first_calls service c) ≡ true
first_fit service c = at (c == 1)
  where
    at : (b : Bool) → calls_fit (standard service) 1 (if b then setup_of service else []) ≡ true
    at true = setup_fits service
    at false = refl

first_length : (service : ServiceKind) (c : ℕ) → length (first_calls service c) ≡ calls_before (setup_count service) c
first_length service c = at (c == 1)
  where
    at : (b : Bool) → length (if b then setup_of service else []) ≡ (if b then setup_count service else 0)
    at true = setup_length service
    at false = refl

few_before : (service : ServiceKind) (c : ℕ) → calls_before (setup_count service) c ≤ most_setup
few_before service c = at (c == 1)
  where
    at : (b : Bool) → (if b then setup_count service else 0) ≤ most_setup
    at true = setup_few service
    at false = omega arith

few_in : (size calls : ℕ) → 0 < size → size * (calls / size) ≤ calls
few_in size calls some = omega arith

part_length : (service : ServiceKind) (c y : ℕ) → length (calls_of_client service c y) ≤ calls_each
part_length service c y =
    let same = groups_length service c y (1 + calls_before (setup_count service) c) 1 (groups_of service c) in
    let few = few_in (group_size service) (calls_each - calls_before (setup_count service) c) (some_size service) in
    omega (arith, same, few)

-- ---- the script

module _ (service : ServiceKind) (number c : ℕ) where
  part : List ScriptCall
  part = part_of c (generated service number).clients

  script_fits : calls_fit (standard service) 1 (script_calls (generated service number) c) ≡ true
  script_fits = elim (part_is service c 1 (after_draws number stop_count) client_count) [
    | inl none ↦ behind [] none refl
    | inr some ↦ behind (calls_of_client service c some.0) some.1
        (groups_fit service c some.0 (1 + calls_before (setup_count service) c) 1 (groups_of service c) (omega arith))
  ]
    where
      behind : (calls : List ScriptCall) → part_of c (generated service number).clients ≡ calls
          → calls_fit (standard service) (1 + calls_before (setup_count service) c) calls ≡ true
          → calls_fit (standard service) 1 (script_calls (generated service number) c) ≡ true
      behind calls is fit =
          fit_both (standard service) 1 (first_calls service c) (part_of c (generated service number).clients) (first_fit service c)
          (subst (λ m. calls_fit (standard service) (1 + m) (part_of c (generated service number).clients) ≡ true) (sym (first_length service c))
          (subst (λ s. calls_fit (standard service) (1 + calls_before (setup_count service) c) s ≡ true) (sym is) fit))

  script_few : length (script_calls (generated service number) c) ≤ most_script_calls
  script_few = elim (part_is service c 1 (after_draws number stop_count) client_count) [
    | inl none ↦ behind [] none (omega arith)
    | inr some ↦ behind (calls_of_client service c some.0) some.1 (part_length service c some.0)
  ]
    where
      behind : (calls : List ScriptCall) → part_of c (generated service number).clients ≡ calls → length calls ≤ calls_each
          → length (script_calls (generated service number) c) ≤ most_script_calls
      behind calls is few =
          let joined = length-append (first_calls service c) (part_of c (generated service number).clients) in
          let first = first_length service c in
          let before = few_before service c in
          let same = ap length is in
          omega (arith, joined, first, before, same, few)

pub generated_playable : (service : ServiceKind) (number : ℕ) → IsPlayable (standard service) (generated service number)
generated_playable service number = record {
  fit = λ c. script_fits service number c;
  few = λ c. script_few service number c;
  clients = clients_ascend service 1 (after_draws number stop_count) client_count 0 (omega arith) (omega arith);
  setup = setup_goes_on service;
  turns = refl;
}

pub generated_stops : (service : ServiceKind) (number : ℕ) → AscendsAbove 0 (generated service number).stops
generated_stops service number = stops_ascend number 0 stop_count
