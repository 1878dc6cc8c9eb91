use Rattle.std.proofs.Common.{◌≡◌, true, false, rules}
use Rattle.csv.specs.Records.{fields_of}
use Rattle.inputs.specs.Clients.{is_client}
use Rattle.inputs.proofs.ReadLemmas.{field-drop}
use Rattle.inputs.proofs.ScriptLemmas.{drop-no_field, client_of-none, client_of-bad, client_of-too_many, client_of-ok}
use Rattle.inputs.proofs.client.read_client.Goals as goal

pub returns-in-None-clause-err : goal.returns-in-None-clause-err
returns-in-None-clause-err c = client_of-none _ _ _ (drop-no_field (fields_of c.args.fields.now) 0 (rw c.in-None.is at c.get.ensures.value))

pub returns-then-not-is_name-clause-err : goal.returns-then-not-is_name-clause-err
returns-then-not-is_name-clause-err c =
    let here = field-drop (fields_of c.args.fields.now) 0 c.in-Some.name.now (rw c.in-Some.is at c.get.ensures.value) in
    let no : is_client c.in-Some.name.now ≡ false = search rules in
    client_of-bad c.args.clients.now c.args.number (fields_of c.args.fields.now) _ c.in-Some.name.now here no

pub returns-then-client-clause-err : goal.returns-then-client-clause-err
returns-then-client-clause-err c =
    let here = field-drop (fields_of c.args.fields.now) 0 c.in-Some.name.now (rw c.in-Some.is at c.get.ensures.value) in
    let yes : is_client c.in-Some.name.now ≡ true = search rules in
    client_of-too_many c.args.clients.now c.args.number (fields_of c.args.fields.now) _ c.in-Some.name.now here yes
    (rw c.find_client-client.ensures at c.if-client.true)

pub returns-clause-ok : goal.returns-clause-ok
returns-clause-ok c =
    let here = field-drop (fields_of c.args.fields.now) 0 c.in-Some.name.now (rw c.in-Some.is at c.get.ensures.value) in
    let yes : is_client c.in-Some.name.now ≡ true = search rules in
    rw c.find_client-client.ensures
    (client_of-ok c.args.clients.now c.args.number (fields_of c.args.fields.now) _ c.in-Some.name.now here yes
    (rw c.find_client-client.ensures at c.if-client.false))
