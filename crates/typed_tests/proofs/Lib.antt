mod JsonForm
