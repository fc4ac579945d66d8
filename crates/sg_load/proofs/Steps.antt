-- What one more draw, stop, group or client makes of a script so far.
use Rattle.std.proofs.Common.{◌≡◌, ℕ, zero, suc, ◌+◌, ◌-◌, ◌%◌, ◌<◌, ◌≤◌, List, [], ◌∷◌, ◌++◌, refl, sym, ◌∙◌, ap, subst, arith, append_assoc}
use Rattle.std.specs.Prelude.{replicate}
use Rattle.sg_load.specs.declared.kind.ServiceKind.{ServiceKind}
use Rattle.sg_load.specs.Drawn.{after_draws, drawn, stops_from}
use Rattle.sg_load.specs.Inside.{calls_of_client, groups_of, most_distance, upper}
use Rattle.sg_load.specs.Generated.{clients_from, groups_from}
use Rattle.sg_load.specs.Services.{group_of, group_size}
use Rattle.sg_plain.specs.sg_script.declared.script.ScriptCall.{ScriptCall}

append_none : {A : Type 0} (xs : List A) → xs ++ [] ≡ xs
append_none [] = refl
append_none (x ∷ xs) = ap (λ ys. x ∷ ys) (append_none xs)

one_less : (n done : ℕ) → done < n → n - done ≡ suc (n - (done + 1))
one_less n done less = omega (arith, less)

none_left : (n done : ℕ) → n ≤ done → n - done ≡ 0
none_left n done all = omega (arith, all)

-- ---- calls so many times

pub times_none : (c : ScriptCall) → [] ≡ replicate 0 c
times_none c = refl

pub times_more : (c : ScriptCall) (count : ℕ) → replicate (count + 1) c ≡ replicate count c ++ c ∷ []
times_more c zero = refl
times_more c (suc count) =
    let e : suc count + 1 ≡ suc (count + 1) = omega arith in
    subst (λ k. replicate k c ≡ replicate (suc count) c ++ c ∷ []) (sym e) (ap (λ cs. c ∷ cs) (times_more c count))

-- ---- draws

pub draws_none : (x n done : ℕ) → n ≤ done → after_draws x (n - done) ≡ x
unfolding after_draws
draws_none x n done all = ap (after_draws x) (none_left n done all)

pub draws_more : (x y n done : ℕ) → done < n → y ≡ drawn x → after_draws y (n - (done + 1)) ≡ after_draws x (n - done)
unfolding after_draws
draws_more x y n done less next = ap (λ z. after_draws z (n - (done + 1))) next ∙ ap (after_draws x) (sym (one_less n done less))

-- ---- stops

pub stops_none : (x stop n done : ℕ) (made : List ℕ) → n ≤ done → made ++ stops_from x stop (n - done) ≡ made
unfolding stops_from
stops_none x stop n done made all = ap (λ k. made ++ stops_from x stop k) (none_left n done all) ∙ append_none made

pub stops_more : (x y stop n done : ℕ) (made : List ℕ) → done < n → y ≡ drawn x
    → (made ++ (stop + (1 + upper y % most_distance)) ∷ []) ++ stops_from y (stop + (1 + upper y % most_distance)) (n - (done + 1)) ≡ made ++ stops_from x stop (n - done)
unfolding stops_from
stops_more x y stop n done made less next =
    subst (λ z. (made ++ (stop + (1 + upper z % most_distance)) ∷ []) ++ stops_from z (stop + (1 + upper z % most_distance)) (n - (done + 1)) ≡ made ++ stops_from x stop (n - done)) (sym next)
    (append_assoc made ((stop + (1 + upper (drawn x) % most_distance)) ∷ []) (stops_from (drawn x) (stop + (1 + upper (drawn x) % most_distance)) (n - (done + 1)))
    ∙ ap (λ k. made ++ stops_from x stop k) (sym (one_less n done less)))

-- ---- groups

pub groups_none : (service : ServiceKind) (client x first group n done : ℕ) (made : List ScriptCall) → n ≤ done
    → made ++ groups_from service client x first group (n - done) ≡ made
unfolding groups_from
groups_none service client x first group n done made all = ap (λ k. made ++ groups_from service client x first group k) (none_left n done all) ∙ append_none made

pub groups_more : (service : ServiceKind) (client x y first group n done : ℕ) (made : List ScriptCall) → done < n → y ≡ drawn x
    → (made ++ group_of service client first group (upper y)) ++ groups_from service client y (first + group_size service) (group + 1) (n - (done + 1))
    ≡ made ++ groups_from service client x first group (n - done)
unfolding groups_from
groups_more service client x y first group n done made less next =
    subst (λ z. (made ++ group_of service client first group (upper z)) ++ groups_from service client z (first + group_size service) (group + 1) (n - (done + 1))
    ≡ made ++ groups_from service client x first group (n - done)) (sym next)
    (append_assoc made (group_of service client first group (upper (drawn x))) (groups_from service client (drawn x) (first + group_size service) (group + 1) (n - (done + 1)))
    ∙ ap (λ k. made ++ groups_from service client x first group k) (sym (one_less n done less)))

-- ---- clients

pub clients_none : (service : ServiceKind) (client x n done : ℕ) (made : List (ℕ × List ScriptCall)) → n ≤ done
    → made ++ clients_from service client x (n - done) ≡ made
unfolding clients_from
clients_none service client x n done made all = ap (λ k. made ++ clients_from service client x k) (none_left n done all) ∙ append_none made

pub clients_more : (service : ServiceKind) (client x y n done : ℕ) (made : List (ℕ × List ScriptCall)) → done < n → y ≡ after_draws x (groups_of service client)
    → (made ++ (client, calls_of_client service client x) ∷ []) ++ clients_from service (client + 1) y (n - (done + 1)) ≡ made ++ clients_from service client x (n - done)
unfolding clients_from
clients_more service client x y n done made less next =
    subst (λ z. (made ++ (client, calls_of_client service client x) ∷ []) ++ clients_from service (client + 1) z (n - (done + 1)) ≡ made ++ clients_from service client x (n - done)) (sym next)
    (append_assoc made ((client, calls_of_client service client x) ∷ []) (clients_from service (client + 1) (after_draws x (groups_of service client)) (n - (done + 1)))
    ∙ ap (λ k. made ++ clients_from service client x k) (sym (one_less n done less)))
