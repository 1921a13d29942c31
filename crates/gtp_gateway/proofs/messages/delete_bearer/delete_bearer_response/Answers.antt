use Rattle.std.proofs.Common.{rules, ◌≡◌, ◌∙◌, ◌≤◌, List, Some, length, map, option_map, sym, subst, ℕ, Bool, [], ◌∷◌, Option, None, refl, arith}
use Rattle.gtp_ie.specs.declared.value.ebi.EbiValue.{EbiValue}
use Rattle.gtp_machine.specs.Message.{Delete_bearer_response}
use Rattle.gtp_machine.specs.Reading.{removed_bearer, control_message}
use Rattle.gtp_v2.specs.declared.body.delete_bearer_response.RemovalResponseContext.{RemovalResponseContext}
use Rattle.std.specs.Prelude.{All, option_to_list}
use Rattle.std.specs.List.{AllByRecursion}
use Rattle.std.proofs.lemmas.List.{length-map}
use Rattle.std.proofs.lemmas.List.Elements.{All-from_recursion, All-map}
use Rattle.gtp_values.specs.declared.cause.Cause.{Cause}
use Rattle.gtp_values.specs.declared.counter.Counter.{Counter}
use Rattle.gtp_values.specs.declared.identifiers.Teid.{Teid}
use Rattle.gtp_v2.specs.declared.body.Body.TheVariants as bodies
use Rattle.gtp_v2.specs.DeleteBearerResponse.{removal_response_context_rows, removal_response_context_values}
use Rattle.gtp_v2.specs.Marks.{RowsMarked}
use Rattle.gtp_ie.specs.Value.{OfCause, OfEbi, OfRecovery}
use Rattle.gtp_v2.specs.Table.{Plain, Groups, start, after}
use Rattle.gtp_machine.specs.Decoded.{contexts_in, row_in, first_in, number_of, removed}
use Rattle.gtp_machine.proofs.Octets.ByName.{removed_read}
use Rattle.gtp_machine.specs.Spelling.{removed_rows, typed, where_there}
use Rattle.gtp_gateway.specs.messages.Own.{IsOwn}
use Rattle.gtp_gateway.proofs.messages.delete_bearer.delete_bearer_response.Goals as goal

every : {X : Type 0} (P : X → Type 0) → ((x : X) → P x) → (xs : List X) → AllByRecursion P xs
every P each [] = tt
every P each (x ∷ xs) = (each x, every P each xs)

context_marked : (accepting : Bool) (c : RemovalResponseContext) → RowsMarked accepting removal_response_context_rows (removal_response_context_values c)
context_marked accepting c = (omega arith, (omega arith, tt))

contexts_marked : (accepting : Bool) (cs : List RemovalResponseContext) → All (RowsMarked accepting removal_response_context_rows) (map removal_response_context_values cs)
contexts_marked accepting cs = All-map (RowsMarked accepting removal_response_context_rows) removal_response_context_values cs (All-from_recursion _ cs (every _ (context_marked accepting) cs))

context_values : (cs : List RemovalResponseContext) → map removal_response_context_values cs ≡ map removed_rows (map removed (map removal_response_context_values cs))
context_values [] = refl
context_values (c ∷ cs) = λ i. removal_response_context_values c ∷ context_values cs i

linked_values : (linked : Option EbiValue) → option_to_list (option_map (λ (x : EbiValue). OfEbi x.0) linked)
    ≡ where_there (λ (x : ℕ). OfEbi x) (first_in number_of (option_to_list (option_map (λ (x : EbiValue). OfEbi x.0) linked)))
linked_values None = refl
linked_values (Some e) = refl

linked_read : (linked : Option EbiValue) → first_in number_of (option_to_list (option_map (λ (x : EbiValue). OfEbi x.0) linked)) ≡ option_map (λ (e : EbiValue). e.0) linked
linked_read None = refl
linked_read (Some e) = refl

-- what it says
delete_bearer_said : (header : Teid) (number : ℕ) (cause : Cause) (linked : Option EbiValue) (cs : List RemovalResponseContext) (counter : Counter)
    → control_message (record {
      teid = Some header;
      seq = number;
      priority = None;
      body = bodies.DeleteBearerResponse (record { cause = cause; linked_ebi = linked; contexts = cs; recovery = Some (record { 0 = counter }) });
    })
    ≡ Delete_bearer_response
    (record {
      header = header;
      number = number;
      cause = cause;
      linked = option_map (λ (e : EbiValue). e.0) linked;
      contexts = map removed_bearer cs;
      recovery = Some counter.0;
    })
unfolding row_in contexts_in
delete_bearer_said header number cause linked cs counter =
    λ i. Delete_bearer_response (record
    { header = header; number = number; cause = cause; linked = linked_read linked i; contexts = removed_read cs i; recovery = Some counter.0 })

-- it is one that a gateway sends
delete_bearer_own : (header : Teid) (number : ℕ) (cause : Cause) (linked : Option EbiValue) (cs : List RemovalResponseContext) (counter : Counter) → length cs ≤ 11
    → IsOwn (record {
      teid = Some header;
      seq = number;
      priority = None;
      body = bodies.DeleteBearerResponse (record { cause = cause; linked_ebi = linked; contexts = cs; recovery = Some (record { 0 = counter }) });
    })
unfolding row_in contexts_in
delete_bearer_own header number cause linked cs counter few =
    record {
      header = search rules;
      kind = tt;
      marks = (
        refl,
        (
          omega arith,
          (
            tt,
            (
              (
                tt,
                contexts_marked
                    (after (after start (Plain (OfCause cause ∷ []))) (Plain (option_to_list (option_map (λ (x : EbiValue). OfEbi x.0) linked)))).accepting
                    cs,
              ),
              (tt, tt),
            ),
          ),
        ),
      );
      few = omega (arith, few, length-map cs removal_response_context_values);
      control = refl;
      own = tt;
      says = λ i. typed 100 (Some header) number (Plain (OfCause cause ∷ []) ∷ Plain (linked_values linked i) ∷ Groups (context_values cs i) ∷ Plain (OfRecovery counter.0 ∷ []) ∷ []);
    }

pub returns-clause-own : goal.returns-clause-own
returns-clause-own c =
    delete_bearer_own c.args.header c.args.seq c.plain_cause.result c.map.result c.of.result c.args.counter
    (subst (λ (cs : List RemovalResponseContext). length cs ≤ 11) (sym c.of.ensures) c.requires)

pub returns-clause-says : goal.returns-clause-says
returns-clause-says c =
    let linked : option_map (λ (e : EbiValue). e.0) c.map.result ≡ c.args.linked = search rules in
    delete_bearer_said c.args.header c.args.seq c.plain_cause.result c.map.result c.of.result c.args.counter
    ∙ (λ i. Delete_bearer_response (record {
      header = c.args.header;
      number = c.args.seq;
      cause = c.plain_cause.ensures i;
      linked = linked i;
      contexts = map removed_bearer (c.of.ensures i);
      recovery = Some c.args.counter.0;
    }))
