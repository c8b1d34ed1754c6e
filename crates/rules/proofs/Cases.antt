-- The worked cases hold: for the bytes of each row the definitions give that row.
use mathlib.Core.Path.{refl}
use Rattle.fields.specs.Tests as Tests
use Rattle.fields.specs.Refusals as Refusals
use Rattle.fields.specs.Fields as Fields
use Rattle.sheet.specs.Headers as Headers
use Rattle.items.specs.Items as Items
use Rattle.items.specs.Statements as Statements
use Rattle.items.specs.Questions as Questions
use Rattle.sheet.specs.Sheets as Sheets
use Rattle.rules.specs.Connectives.{◌and◌, ◌or◌}
use Rattle.rules.specs.Stated as Stated
use Rattle.rules.specs.Tables as Tables
use Rattle.rules.specs.Derived as Derived
use Rattle.rules.specs.Clashes as Clashes
use Rattle.rules.specs.Support as Support
use Rattle.rules.specs.Paths as Reached
use Rattle.items.specs.Paths as Paths
use Rattle.rules.specs.Verdicts as Verdicts
use Rattle.rules.specs.Roots as Roots
use Rattle.rules.specs.Replies as Replies
use Rattle.rules.specs.Cases.{table, worked, counts_of, labels_from, AllWorked, done, ◌next◌}

pub table_holds : AllWorked table
unfolding table worked counts_of labels_from ◌and◌ ◌or◌ Tests.less Tests.same Tests.pick Tests.has
    Refusals.ends Refusals.bad_header_map Refusals.bad_variable_count Refusals.bad_count Refusals.several_bits
    Refusals.bad_item_map Refusals.bad_path_length Refusals.bad_variable Refusals.remain
    Fields.word Fields.byte_field Fields.word_field Fields.variable_field Fields.field_if Fields.run_end Fields.run_of
    Headers.header_map Headers.variable_count Headers.count_field Headers.count_if Headers.header_of
    Items.map_field Items.edge_field Items.label_field Items.fields_at Items.item_at Paths.count_field Paths.path_field
    Statements.statements_of Statements.statement_of Questions.question_of Sheets.body_of Sheets.read_sheet Sheets.sheet_at Sheets.sheet_of
    Stated.any Stated.any_below Stated.first_label
    Stated.some_ordering Stated.some_compatibility Stated.some_selection Stated.some_labelling
    Tables.says Tables.cell_of Tables.cell_at Tables.facts Tables.row_of Tables.rows_of Tables.table_of
    Tables.count_passing Tables.count_row Tables.count_rows Tables.count_facts
    Derived.is_stated Derived.passes Derived.turns Derived.descends Derived.round Derived.rounds Derived.derived
    Clashes.labels_differ Clashes.clashes_at Clashes.clash_in_row Clashes.clash_in_rows Clashes.clash_of Clashes.clashes
    Support.under_child Support.over_child Support.under_label Support.supported
    Verdicts.verdict_of Reached.step Reached.at_path Reached.path_supported Roots.label_at Roots.path_label Replies.reply_by Replies.replies_of
table_holds =
    refl next  -- C1
    refl next  -- C2
    refl next  -- C3
    refl next  -- C4
    refl next  -- C5
    refl next  -- C6
    refl next  -- C7
    refl next  -- C8
    refl next  -- C9
    refl next  -- C10
    refl next  -- C11
    refl next  -- C12
    refl next  -- two bare variables
    refl next  -- F1.2
    refl next  -- F2
    refl next  -- F4 from a stated ~
    refl next  -- two features
    refl next  -- a feature is not passed downward
    refl next  -- a label is not passed along ~
    refl next  -- the least of two columns
    refl next  -- a label up by F2
    refl next  -- one label of two below
    refl next  -- paths
    done
