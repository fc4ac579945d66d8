-- A script without a flaw may be played, and its stops ascend.
use Rattle.std.proofs.Common.{◌≡◌, ℕ, ◌+◌, Bool, true, false, List, [], ◌∷◌, ◌++◌, cond, length, map, None, Some, Ok, refl, sym, ap, subst, arith}
use Rattle.std.proofs.lemmas.List.{length-map}
use Rattle.std.specs.Prelude.{◌==◌, filter}
use Rattle.std.specs.List.{flat_map, list_all}
use Rattle.sg_edge.specs.Stops.{AscendsAbove}
use Rattle.sg_facts.specs.Interface.{Declared}
use Rattle.sg_plain.specs.Calls.{part_of}
use Rattle.sg_plain.specs.Script.{call_fits, calls_fit}
use Rattle.sg_plain.specs.Playing.Playable.{IsPlayable}
use Rattle.sg_script.specs.sg_script_parse.sg_lex.Lexeme.{Spelling}
use Rattle.sg_script.specs.sg_script_parse.declared.tree.Part.{Part}
use Rattle.sg_script.specs.sg_script_parse.declared.tree.Part.TheVariants.{Setup, Client, Schedule, Stop}
use Rattle.sg_script.specs.declared.script.Script.{Script}
use Rattle.sg_script.specs.declared.script.ScriptCall.{ScriptCall}
use Rattle.sg_script.specs.Numbers.{counts_as}
use Rattle.sg_script.specs.Reads.{IsReadingOf}
use Rattle.sg_script.specs.Scripts.{calls_of_setup, clients_of, is_stop_of, script_call_of}
use Rattle.sg_script.specs.sg_script_parse.Grammar.Sentence.{is_named_for}
use Rattle.sg_script.specs.Inside.Parts.{stops_in}
use Rattle.sg_script.specs.Flaws.{calls_before}
use Rattle.sg_script.proofs.Held.{both}
use Rattle.sg_plain.proofs.Flawless.Clients.{IsRead, calls_few, clients_read, of_part}
use Rattle.sg_plain.proofs.Flawless.Once.{IsFlawlessSetup, all_turns, setup_flawless, stops_ascending}
use Rattle.sg_plain.proofs.Flawless.Parts.{Fit, calls_all_fit, calls_all_go, left, right}

-- in a script for one service every `stop` is for it
stops_of_one : (members : List Declared) (parts : List Part) → list_all (is_named_for false) parts ≡ true → flat_map stops_in (filter (is_stop_of members 0) parts) ≡ flat_map stops_in parts
stops_of_one members [] named = refl
stops_of_one members (Stop at None numbers ∷ parts) named = ap (λ l. numbers ++ l) (stops_of_one members parts named)
stops_of_one members (Stop at (Some s) numbers ∷ parts) named = absurd (cc named)
stops_of_one members (Setup at calls ∷ parts) named = stops_of_one members parts named
stops_of_one members (Client at n calls ∷ parts) named = stops_of_one members parts named
stops_of_one members (Schedule at numbers ∷ parts) named = stops_of_one members parts named

fit_two : (i : Declared) (n : ℕ) (xs ys : List ScriptCall) → calls_fit i n xs ≡ true → calls_fit i (length xs + n) ys ≡ true → calls_fit i n (xs ++ ys) ≡ true
fit_two i n [] ys one two = subst (λ m. calls_fit i m ys ≡ true) (omega arith) two
fit_two i n (x ∷ xs) ys one two =
    both (call_fits i n x) _ (left _ _ one) (fit_two i (n + 1) xs ys (right (call_fits i n x) _ one) (subst (λ m. calls_fit i m ys ≡ true) (omega arith) two))

-- a script without a flaw may be played
module _ (i : Declared) (text : List ℕ) (script : Script) (is : IsReadingOf i text (Ok script)) where
  pub script_stops : AscendsAbove 0 script.stops
  script_stops =
      subst (λ (s : Script). AscendsAbove 0 s.stops) (sym is.3)
      (subst (λ l. AscendsAbove 0 (map (λ (n : Spelling). counts_as n.bytes) l)) (stops_of_one (i ∷ []) is.0 is.1.2.1) (stops_ascending (i ∷ []) is.0 is.2 0))

  pub script_playable : IsPlayable i script
  script_playable = subst (IsPlayable i) (sym is.3) (record {
    fit = fit;
    few = calls_few (i ∷ []) (script_call_of i) is.0 is.2;
    clients = read.ascend;
    setup = calls_all_go i setup.0 1 (flat_map calls_of_setup is.0) setup.1;
    turns = all_turns (i ∷ []) (length (flat_map calls_of_setup is.0)) [] is.0 is.2;
  })
    where
      setup : IsFlawlessSetup (i ∷ []) is.0
      setup = setup_flawless (i ∷ []) is.0 is.2

      read : IsRead (Fit i (length (flat_map calls_of_setup is.0))) is.0 (clients_of (script_call_of i) is.0)
      read = clients_read (i ∷ []) (script_call_of i) is.0 is.2 (Fit i (length (flat_map calls_of_setup is.0)))
          (λ n nth calls none. calls_all_fit i false nth (calls_before (length (flat_map calls_of_setup is.0)) n + 1) calls none)

      fit : (client : ℕ) → calls_fit i 1 (cond (client == 1) (map (script_call_of i) (flat_map calls_of_setup is.0)) [] ++ part_of client (clients_of (script_call_of i) is.0)) ≡ true
      fit client = by (client == 1) (of_part (Fit i (length (flat_map calls_of_setup is.0))) client (clients_of (script_call_of i) is.0) refl read.good)
        where
          by : (b : Bool) → calls_fit i (cond b (length (flat_map calls_of_setup is.0)) 0 + 1) (part_of client (clients_of (script_call_of i) is.0)) ≡ true
              → calls_fit i 1 (cond b (map (script_call_of i) (flat_map calls_of_setup is.0)) [] ++ part_of client (clients_of (script_call_of i) is.0)) ≡ true
          by true own = fit_two i 1 (map (script_call_of i) (flat_map calls_of_setup is.0)) (part_of client (clients_of (script_call_of i) is.0)) (calls_all_fit i true setup.0 1 (flat_map calls_of_setup is.0) setup.1)
              (subst (λ m. calls_fit i (m + 1) (part_of client (clients_of (script_call_of i) is.0)) ≡ true) (sym (length-map (flat_map calls_of_setup is.0) (script_call_of i))) own)
          by false own = subst (λ m. calls_fit i m (part_of client (clients_of (script_call_of i) is.0)) ≡ true) (omega arith) own
