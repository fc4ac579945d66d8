-- What the load's proofs know of each service: its standard interface fits, and the calls of its setup and of its groups fit that.
use Rattle.std.proofs.Common.{◌≡◌, ◌⊎◌, inl, inr, ℕ, ◌+◌, ◌-◌, ◌^◌, ◌<◌, ◌≤◌, true, false, List, [], ◌∷◌, ◌++◌, length, refl, sym, ◌∙◌, subst, Result, Ok, Err, IfOk, arith, length-append}
use Rattle.std.specs.Fmt.{decimal}
use Rattle.std.specs.List.{list_all}
use Rattle.std.specs.Prelude.{codes, nat_le, nat_lt, not}
use Rattle.std.proofs.lemmas.Bool.Decides.{nat_tests}
use Rattle.std.proofs.lemmas.Fmt.{length-decimal-le}
use Rattle.sg_check.specs.Shapes.{IsSmall}
use Rattle.sg_facts.specs.declared.shape.Shape.{Shape}
use Rattle.sg_facts.specs.sg_base.Text.{is_text_byte}
use Rattle.sg_facts.specs.Facts.{facts_of, fun_at}
use Rattle.sg_facts.specs.Fits.{Fits, IsReached, move, needs_reach, step}
use Rattle.sg_facts.specs.Interface.{Declared, moves_on}
use Rattle.sg_facts.specs.Laws.{whole}
use Rattle.sg_facts.specs.Walks.{IsReachable, made, moved}
use Rattle.sg_load.specs.declared.kind.ServiceKind.{ServiceKind}
use Rattle.sg_load.specs.declared.kind.ServiceKind.TheVariants.{Locks, Events, Pages, Files, Threads, Timers}
use Rattle.sg_load.specs.Inside.{most_setup, setup_of}
use Rattle.sg_load.specs.Services.{call, facts_by, group_of, group_size, setup_count, standard}
use Rattle.sg_load.proofs.Checked.{IsChecked, Line, UpTo, fits, line}
use Rattle.sg_load.proofs.Printable.{all_both, both, decimal_is, short}
use Rattle.sg_load.proofs.Repeats.{times_all, times_fit, times_length}
use Rattle.sg_load.proofs.Wholes.{whole_is}
use Rattle.sg_plain.specs.Answering.{no_query_waits}
use Rattle.sg_plain.specs.Script.{calls_fit}
use Rattle.sg_plain.specs.sg_script.Numbers.{is_text}

-- ---- locks: free, or taken

abbrev lock_lines : List Line
lock_lines = line 1 1 (false ∷ []) (1 ∷ []) ∷ line 1 2 (true ∷ []) (1 ∷ 2 ∷ []) ∷ []

free_lock : IsReachable (standard Locks) 1 1 (false ∷ [])
free_lock = made 1 (false ∷ []) refl refl refl

taken_lock : IsReachable (standard Locks) 1 2 (true ∷ [])
taken_lock = moved 1 2 1 (false ∷ []) (true ∷ []) free_lock refl refl refl

lock_checked : IsChecked (standard Locks) 4 lock_lines
lock_checked = record {
  declared = refl;
  few = refl;
  moves_of = refl;
  steps_of = refl;
  moves = refl;
  steps = refl;
  leaves = ((((tt, tt), tt), refl), tt);
  creation = refl;
  reached = ((((tt, λ is. absurd (cc is)), λ is. step 1 refl), λ is. move 1 2 (true ∷ []) taken_lock refl), λ is. move 1 1 (false ∷ []) free_lock refl);
  made = ((((tt, refl), refl), refl), refl);
  good = refl;
}

-- ---- events: their count is 0, or not

abbrev event_lines : List Line
event_lines = line 1 1 (false ∷ []) (1 ∷ []) ∷ line 1 1 (true ∷ []) (1 ∷ 3 ∷ []) ∷ []

new_event : IsReachable (standard Events) 1 1 (false ∷ [])
new_event = made 1 (false ∷ []) refl refl refl

event_checked : IsChecked (standard Events) 4 event_lines
event_checked = record {
  declared = refl;
  few = refl;
  moves_of = refl;
  steps_of = refl;
  moves = refl;
  steps = refl;
  leaves = ((((tt, tt), tt), tt), tt);
  creation = refl;
  reached = ((((tt, λ is. absurd (cc is)), λ is. move 1 1 (false ∷ []) new_event refl), λ is. step 1 refl), λ is. move 1 1 (false ∷ []) new_event refl);
  made = ((((tt, refl), refl), refl), refl);
  good = refl;
}

-- ---- pages: mapped, or an alias of another

abbrev mm_lines : List Line
mm_lines =
    line 1 1 (true ∷ false ∷ []) (1 ∷ []) ∷ line 1 1 (true ∷ true ∷ []) (1 ∷ [])
    ∷ line 2 2 (false ∷ false ∷ []) (2 ∷ []) ∷ line 2 2 (false ∷ true ∷ []) (2 ∷ [])
    ∷ line 2 2 (true ∷ false ∷ []) (2 ∷ []) ∷ line 2 2 (true ∷ true ∷ []) (2 ∷ []) ∷ []

new_page : IsReachable (standard Pages) 1 1 (true ∷ true ∷ [])
new_page = made 1 (true ∷ true ∷ []) refl refl refl

mm_checked : IsChecked (standard Pages) 4 mm_lines
mm_checked = record {
  declared = refl;
  few = refl;
  moves_of = refl;
  steps_of = refl;
  moves = refl;
  steps = refl;
  leaves = ((((tt, tt), tt), tt), tt);
  creation = refl;
  reached = ((((tt, λ is. absurd (cc is)), λ is. absurd (cc is)), λ is. move 1 1 (true ∷ true ∷ []) new_page refl), λ is. absurd (cc is));
  made = ((((tt, refl), refl), refl), refl);
  good = refl;
}

-- ---- files: at their start, or further on

abbrev ramfs_lines : List Line
ramfs_lines =
    line 1 1 (false ∷ false ∷ []) (1 ∷ []) ∷ line 1 1 (true ∷ false ∷ []) (1 ∷ [])
    ∷ line 1 1 (false ∷ true ∷ []) (1 ∷ 4 ∷ []) ∷ line 1 1 (true ∷ true ∷ []) (1 ∷ 4 ∷ []) ∷ []

new_file : IsReachable (standard Files) 1 1 (true ∷ false ∷ [])
new_file = made 1 (true ∷ false ∷ []) refl refl refl

from_new_file : (fun : ℕ) → moves_on (standard Files) 1 fun ≡ true → IsReached (standard Files) fun
from_new_file fun is = move 1 1 (true ∷ false ∷ []) new_file is

ramfs_checked : IsChecked (standard Files) 5 ramfs_lines
ramfs_checked = record {
  declared = refl;
  few = refl;
  moves_of = refl;
  steps_of = refl;
  moves = refl;
  steps = refl;
  leaves = (((((tt, tt), tt), tt), tt), tt);
  creation = refl;
  reached = (((((tt, λ is. absurd (cc is)), λ is. from_new_file 2 refl), λ is. from_new_file 3 refl), λ is. step 1 refl), λ is. from_new_file 5 refl);
  made = (((((tt, refl), refl), refl), refl), refl);
  good = refl;
}

-- ---- threads: ready, or asleep

abbrev sched_lines : List Line
sched_lines =
    line 1 1 (false ∷ false ∷ []) (1 ∷ 7 ∷ []) ∷ line 1 1 (false ∷ true ∷ []) (1 ∷ 7 ∷ [])
    ∷ line 1 1 (true ∷ false ∷ []) (1 ∷ 7 ∷ []) ∷ line 1 1 (true ∷ true ∷ []) (1 ∷ 7 ∷ [])
    ∷ line 1 3 (false ∷ false ∷ []) (1 ∷ 7 ∷ 3 ∷ []) ∷ line 1 3 (false ∷ true ∷ []) (1 ∷ 7 ∷ 3 ∷ [])
    ∷ line 1 3 (true ∷ false ∷ []) (1 ∷ 7 ∷ 3 ∷ []) ∷ line 1 3 (true ∷ true ∷ []) (1 ∷ 7 ∷ 3 ∷ []) ∷ []

new_thread : IsReachable (standard Threads) 1 1 (false ∷ true ∷ [])
new_thread = made 1 (false ∷ true ∷ []) refl refl refl

asleep : IsReachable (standard Threads) 1 3 (false ∷ true ∷ [])
asleep = moved 1 3 1 (false ∷ true ∷ []) (false ∷ true ∷ []) new_thread refl refl refl

from_new_thread : (fun : ℕ) → moves_on (standard Threads) 1 fun ≡ true → IsReached (standard Threads) fun
from_new_thread fun is = move 1 1 (false ∷ true ∷ []) new_thread is

-- the first four functions, of which the last is called on a thread that is asleep, and the others
abbrev IsReachedThread : ℕ → Type 0
IsReachedThread fun = needs_reach (standard Threads) fun ≡ true → IsReached (standard Threads) fun

first_four : UpTo IsReachedThread 4
first_four = ((((tt, λ is. absurd (cc is)), λ is. from_new_thread 2 refl), λ is. step 1 refl), λ is. move 1 3 (false ∷ true ∷ []) asleep refl)

all_eight : UpTo IsReachedThread 8
all_eight = ((((first_four, λ is. from_new_thread 5 refl), λ is. absurd (cc is)), λ is. step 1 refl), λ is. from_new_thread 8 refl)

sched_checked : IsChecked (standard Threads) 8 sched_lines
sched_checked = record {
  declared = refl;
  few = refl;
  moves_of = refl;
  steps_of = refl;
  moves = refl;
  steps = refl;
  leaves = ((((((((tt, tt), tt), tt), refl), tt), tt), tt), tt);
  creation = refl;
  reached = all_eight;
  made = ((((((((tt, refl), refl), refl), refl), refl), refl), refl), refl);
  good = refl;
}

-- ---- timers: with a period, a tag, a time and a due time, or without

abbrev timer_lines : List Line
timer_lines =
    line 1 1 (true ∷ false ∷ false ∷ false ∷ false ∷ []) (1 ∷ 4 ∷ [])
    ∷ line 1 1 (true ∷ false ∷ false ∷ false ∷ true ∷ []) (1 ∷ 4 ∷ [])
    ∷ line 1 1 (true ∷ false ∷ true ∷ false ∷ false ∷ []) (1 ∷ 4 ∷ [])
    ∷ line 1 1 (true ∷ false ∷ true ∷ false ∷ true ∷ []) (1 ∷ 4 ∷ [])
    ∷ line 1 1 (true ∷ true ∷ false ∷ false ∷ false ∷ []) (1 ∷ 4 ∷ [])
    ∷ line 1 1 (true ∷ true ∷ false ∷ false ∷ true ∷ []) (1 ∷ 4 ∷ [])
    ∷ line 1 1 (true ∷ true ∷ true ∷ false ∷ false ∷ []) (1 ∷ 4 ∷ [])
    ∷ line 1 1 (true ∷ true ∷ true ∷ false ∷ true ∷ []) (1 ∷ 4 ∷ [])
    ∷ line 1 1 (true ∷ false ∷ false ∷ true ∷ false ∷ []) (1 ∷ 2 ∷ 4 ∷ [])
    ∷ line 1 1 (true ∷ false ∷ false ∷ true ∷ true ∷ []) (1 ∷ 2 ∷ 4 ∷ [])
    ∷ line 1 1 (true ∷ false ∷ true ∷ true ∷ false ∷ []) (1 ∷ 2 ∷ 4 ∷ [])
    ∷ line 1 1 (true ∷ false ∷ true ∷ true ∷ true ∷ []) (1 ∷ 2 ∷ 4 ∷ [])
    ∷ line 1 1 (true ∷ true ∷ false ∷ true ∷ false ∷ []) (1 ∷ 2 ∷ 4 ∷ [])
    ∷ line 1 1 (true ∷ true ∷ false ∷ true ∷ true ∷ []) (1 ∷ 2 ∷ 4 ∷ [])
    ∷ line 1 1 (true ∷ true ∷ true ∷ true ∷ false ∷ []) (1 ∷ 2 ∷ 4 ∷ [])
    ∷ line 1 1 (true ∷ true ∷ true ∷ true ∷ true ∷ []) (1 ∷ 2 ∷ 4 ∷ []) ∷ []

new_timer : IsReachable (standard Timers) 1 1 (true ∷ true ∷ true ∷ false ∷ true ∷ [])
new_timer = made 1 (true ∷ true ∷ true ∷ false ∷ true ∷ []) refl refl refl

from_new_timer : (fun : ℕ) → moves_on (standard Timers) 1 fun ≡ true → IsReached (standard Timers) fun
from_new_timer fun is = move 1 1 (true ∷ true ∷ true ∷ false ∷ true ∷ []) new_timer is

timer_checked : IsChecked (standard Timers) 7 timer_lines
timer_checked = record {
  declared = refl;
  few = refl;
  moves_of = refl;
  steps_of = refl;
  moves = refl;
  steps = refl;
  leaves = (((((((tt, tt), tt), tt), tt), tt), tt), tt);
  creation = refl;
  reached = (((((((tt, λ is. absurd (cc is)), λ is. step 1 refl), λ is. from_new_timer 3 refl), λ is. step 1 refl), λ is. absurd (cc is)), λ is. from_new_timer 6 refl), λ is. from_new_timer 7 refl);
  made = (((((((tt, refl), refl), refl), refl), refl), refl), refl);
  good = refl;
}

-- ---- the standard interface of each fits

pub standard_fits : (service : ServiceKind) → Fits (standard service)
standard_fits Locks = fits (standard Locks) 4 lock_lines lock_checked
standard_fits Events = fits (standard Events) 4 event_lines event_checked
standard_fits Pages = fits (standard Pages) 4 mm_lines mm_checked
standard_fits Files = fits (standard Files) 5 ramfs_lines ramfs_checked
standard_fits Threads = fits (standard Threads) 8 sched_lines sched_checked
standard_fits Timers = fits (standard Timers) 7 timer_lines timer_checked

pub standard_small : (service : ServiceKind) → IsSmall (standard service)
standard_small Locks = record { funs = omega arith; fields = omega arith }
standard_small Events = record { funs = omega arith; fields = omega arith }
standard_small Pages = record { funs = omega arith; fields = omega arith }
standard_small Files = record { funs = omega arith; fields = omega arith }
standard_small Threads = record { funs = omega arith; fields = omega arith }
standard_small Timers = record { funs = omega arith; fields = omega arith }

-- ---- waits

-- in a private service no query waits
pub none_waits : (service : ServiceKind) → no_query_waits (facts_by service) ≡ true
none_waits Locks = refl
none_waits Events = refl
none_waits Pages = refl
none_waits Files = refl
none_waits Threads = refl
none_waits Timers = refl

-- ---- what a standard interface declares

-- of each service but that of events
abbrev IsOther : ServiceKind → Type 0
IsOther kind = (kind ≡ Locks) ⊎ ((kind ≡ Pages) ⊎ ((kind ≡ Files) ⊎ ((kind ≡ Threads) ⊎ (kind ≡ Timers))))

declares_all : (kind : ServiceKind) → IsOther kind → whole (facts_by kind) ≡ standard kind
declares_all kind (inl is) = subst (λ k. whole (facts_by k) ≡ standard k) (sym is) refl
declares_all kind (inr (inl is)) = subst (λ k. whole (facts_by k) ≡ standard k) (sym is) refl
declares_all kind (inr (inr (inl is))) = subst (λ k. whole (facts_by k) ≡ standard k) (sym is) refl
declares_all kind (inr (inr (inr (inl is)))) = subst (λ k. whole (facts_by k) ≡ standard k) (sym is) refl
declares_all kind (inr (inr (inr (inr is)))) = subst (λ k. whole (facts_by k) ≡ standard k) (sym is) refl

pub standard_is : {E : Type 0} (kind : ServiceKind) (shape : Shape) → IsOther kind → facts_of shape ≡ facts_by kind → (built : Result Declared E)
    → IfOk built (λ iface. iface ≡ record (whole (facts_of shape)) { declared = 2 ^ length shape.funs.now - 1; moves = shape.moves.now })
    → IfOk built (λ iface. iface ≡ standard kind)
standard_is kind shape other is (Err e) all = tt
standard_is kind shape other is (Ok iface) all = all ∙ whole_is shape (facts_by kind) is ∙ declares_all kind other

-- ---- the setup of each

pub setup_fits : (service : ServiceKind) → calls_fit (standard service) 1 (setup_of service) ≡ true
setup_fits Locks = times_fit (standard Locks) (call 1 []) (λ n. refl) 1 (setup_count Locks)
setup_fits Events = times_fit (standard Events) (call 1 []) (λ n. refl) 1 (setup_count Events)
setup_fits Pages = refl
setup_fits Files = refl
setup_fits Threads = refl
setup_fits Timers = refl

pub setup_length : (service : ServiceKind) → length (setup_of service) ≡ setup_count service
setup_length Locks = times_length (call 1 []) (setup_count Locks)
setup_length Events = times_length (call 1 []) (setup_count Events)
setup_length Pages = refl
setup_length Files = refl
setup_length Threads = refl
setup_length Timers = refl

pub setup_goes_on : (service : ServiceKind) → list_all (λ c. not (fun_at (standard service).facts.funs c.fun).block) (setup_of service) ≡ true
setup_goes_on Locks = times_all (λ c. not (fun_at (standard Locks).facts.funs c.fun).block) (call 1 []) refl (setup_count Locks)
setup_goes_on Events = times_all (λ c. not (fun_at (standard Events).facts.funs c.fun).block) (call 1 []) refl (setup_count Events)
setup_goes_on Pages = refl
setup_goes_on Files = refl
setup_goes_on Threads = refl
setup_goes_on Timers = refl

-- the calls of the setup are few
pub setup_few : (service : ServiceKind) → setup_count service ≤ most_setup
setup_few Locks = omega arith
setup_few Events = omega arith
setup_few Pages = omega arith
setup_few Files = omega arith
setup_few Threads = omega arith
setup_few Timers = omega arith

-- ---- the groups of each

module _ (first : ℕ) (low : 1 ≤ first) where
  begun : nat_le 1 first ≡ true
  begun = grind (arith, nat_tests, low)

  below_1 : nat_lt first (first + 1) ≡ true
  below_1 = grind (arith, nat_tests)

  below_2 : nat_lt first (first + 1 + 1) ≡ true
  below_2 = grind (arith, nat_tests)

  below_3 : nat_lt first (first + 1 + 1 + 1) ≡ true
  below_3 = grind (arith, nat_tests)

  below_4 : nat_lt first (first + 1 + 1 + 1 + 1) ≡ true
  below_4 = grind (arith, nat_tests)

  pub group_fits : (service : ServiceKind) (client group u : ℕ) → calls_fit (standard service) first (group_of service client first group u) ≡ true
  group_fits Locks client group u = refl
  group_fits Events client group u = refl
  group_fits Pages client group u = rw (begun, below_1, below_3) refl
  group_fits Files client group u = rw (begun, below_1, below_2, below_3, below_4) refl
  group_fits Threads client group u = rw (begun, below_1, below_3, below_4) refl
  group_fits Timers client group u = rw (begun, below_1, below_2, below_3, below_4) refl

pub group_length : (service : ServiceKind) (client first group u : ℕ) → length (group_of service client first group u) ≡ group_size service
group_length Locks client first group u = refl
group_length Events client first group u = refl
group_length Pages client first group u = refl
group_length Files client first group u = refl
group_length Threads client first group u = refl
group_length Timers client first group u = refl

-- a group has calls
pub some_size : (service : ServiceKind) → 0 < group_size service
some_size Locks = omega arith
some_size Events = omega arith
some_size Pages = omega arith
some_size Files = omega arith
some_size Threads = omega arith
some_size Timers = omega arith

-- ---- the texts of calls on files

pub name_is_text : (file : ℕ) → file < 2 ^ 32 → is_text (codes "f" ++ decimal file) ≡ true
name_is_text file small =
    let digits : length (decimal file) ≤ 10 = length-decimal-le 10 file (omega arith) (omega (arith, small)) (omega (arith, small)) in
    let joined = length-append (codes "f") (decimal file) in
    both _ _ (short (codes "f" ++ decimal file) (omega (arith, joined, digits))) (all_both is_text_byte (codes "f") (decimal file) refl (decimal_is file (omega (arith, small))))

pub text_is_text : (client group : ℕ) → client < 2 ^ 8 → group < 2 ^ 32 → is_text (decimal client ++ (codes ":" ++ decimal group)) ≡ true
text_is_text client group few small =
    let one : length (decimal client) ≤ 10 = length-decimal-le 10 client (omega arith) (omega (arith, few)) (omega (arith, few)) in
    let other : length (decimal group) ≤ 10 = length-decimal-le 10 group (omega arith) (omega (arith, small)) (omega (arith, small)) in
    let joined = length-append (decimal client) (codes ":" ++ decimal group) in
    let back = length-append (codes ":") (decimal group) in
    both _ _ (short (decimal client ++ (codes ":" ++ decimal group)) (omega (arith, joined, back, one, other)))
    (all_both is_text_byte (decimal client) (codes ":" ++ decimal group) (decimal_is client (omega (arith, few)))
    (all_both is_text_byte (codes ":") (decimal group) refl (decimal_is group (omega (arith, small)))))
