use Rattle.mx_format.proofs.parcels.add_content_json.Goals as goal

pub returns-in-Want : goal.returns-in-Want
returns-in-Want g c = rw c.in-Want.is (rw c.as_slice.ensures.value at c.add_list_json.ensures)

pub returns-in-Base : goal.returns-in-Base
returns-in-Base g c = rw c.in-Base.is (rw c.upto.ensures.value at c.add_word_and_number.ensures)

pub returns-in-Records : goal.returns-in-Records
returns-in-Records g c = rw c.in-Records.is (rw c.as_slice-in-Records.ensures.value at c.add_list_json-in-Records.ensures)
