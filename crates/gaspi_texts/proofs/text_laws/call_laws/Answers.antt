use Rattle.gaspi_texts.proofs.text_laws.call_laws.Goals as goal

pub returns : goal.returns
returns c =
    record {
      joined = c.pieces_are_the_text.ensures.joined;
      pieces = c.pieces_are_the_text.ensures.words;
      words = c.words_read_back.ensures;
      number = c.numbers_read_back.ensures.number;
      value = c.numbers_read_back.ensures.value;
      bytes = c.bytes_read_back.ensures;
      num_type = c.elements_read_back.ensures.num_type;
      op = c.elements_read_back.ensures.op;
      elements = c.elements_read_back.ensures.elements;
      call = c.calls_read_back.ensures.words;
      number_range = c.read_words_are_in_range.ensures.number;
      value_range = c.read_words_are_in_range.ensures.value;
      bytes_range = c.read_words_are_in_range.ensures.bytes;
      elements_range = c.read_words_are_in_range.ensures.elements;
      elements_counted = c.read_words_are_counted.ensures.elements;
      call_range = c.read_words_are_in_range.ensures.call;
      number_plain = c.written_words_are_plain.ensures.number;
      bytes_plain = c.written_words_are_plain.ensures.bytes;
      elements_plain = c.written_words_are_plain.ensures.elements;
      call_plain = c.written_words_are_plain.ensures.call;
      leads = c.read_words_are_written.ensures.leads;
      number_written = c.read_words_are_written.ensures.number;
      value_written = c.read_words_are_written.ensures.value;
      call_written = c.read_words_are_written.ensures.call;
    }
